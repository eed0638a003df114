pub mod LineLemmas
pub mod MapLemmas
pub mod MetricLemmas
pub mod OutputLemmas
pub mod ReportLemmas
pub mod ScriptLemmas
pub mod SpellingLemmas
