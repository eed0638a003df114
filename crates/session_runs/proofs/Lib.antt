pub mod ModelWords
pub mod StopLemmas
pub mod RunLemmas
pub mod CallLemmas
pub mod ServeLemmas
pub mod SpelledLemmas
