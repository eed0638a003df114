-- Words of the crates below, under one name for the proofs of this one.
pub use Rattle.std.proofs.lemmas.Bool.{cases_Bool, cases_eq, or_left, or_right}
pub use Rattle.std.proofs.lemmas.List.{length-map}
pub use Rattle.std.proofs.lemmas.List.Concat.{length-flat_map}
pub use Rattle.std.proofs.lemmas.List.Folds.{list_any-append}
pub use Rattle.std.proofs.lemmas.List.Sums.{sum_by-le}
pub use Rattle.std.specs.List.{flat_map, list_any}
