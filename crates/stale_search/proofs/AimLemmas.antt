-- What a search asks for is what its seat knows.
use Rattle.std.proofs.Common.{ℕ, refl, inl}
use Rattle.step_rules.specs.Words.{LockKind}
use Rattle.step_rules.specs.Searching.{IsAimed}
use Rattle.stale_search.specs.Searches.{ask_at, facts_at}
use Rattle.stale_search.specs.Words.{SearchPlace, GrantDirectory, ReadDepth, ReadEntry, GrantPage, ReleaseDirectory, Look, Hop, Found}

pub search_aimed : (place : SearchPlace) (kind : LockKind) (k : ℕ) → IsAimed (ask_at place kind k) (facts_at place k)
search_aimed GrantDirectory kind k = tt
search_aimed ReadDepth kind k = tt
search_aimed (ReadEntry depth) kind k = refl
search_aimed (GrantPage n) kind k = refl
search_aimed (ReleaseDirectory n) kind k = refl
search_aimed (Look n) kind k = refl
search_aimed (Hop n) kind k = inl refl
search_aimed (Found n found) kind k = refl
