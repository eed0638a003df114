-- Words of the crates below, under one name for the proofs of this one.
pub use Rattle.file_walk.specs.Laws.{IsQuietFile}
pub use Rattle.hash_file.proofs.Contents.{contents_are_pairs}
pub use Rattle.hash_file.specs.Change.{Quiet}
pub use Rattle.hash_file.specs.Words.{HasContents}
pub use Rattle.queue_model.specs.declared.queue.Queue.{Queue}
pub use Rattle.queue_model.specs.Rules.{has_id}
pub use Rattle.queue_model.proofs.ListLemmas.{find-Some}
pub use Rattle.queue_records.specs.Keys.{key_of_queue}
pub use Rattle.queue_records.specs.Spelling.{key_of}
pub use Rattle.record_walk.specs.declared.queue_links.QueueLinks.{QueueLinks}
pub use Rattle.record_walk.specs.Held.{Holds}
pub use Rattle.record_walk.specs.Links.{AreLinksOf}
pub use Rattle.record_walk.specs.Systems.{HasSystem, IsSystemOf}
pub use Rattle.record_walk.proofs.OneSystem.{one_system}
pub use Rattle.type_chains.specs.Entries.{counter_of, key_entry, queue_entry}
pub use Rattle.type_chains.specs.Image.{image, key_records, message_records, queue_records, type_records}
pub use Rattle.type_chains.specs.RecordOf.{record_of}
pub use Rattle.type_chains.proofs.Images.{image_agrees}
pub use Rattle.type_chains.proofs.Members.{contains_head, contains_tail, in_flat_map, in_map}
pub use Rattle.type_chains.proofs.Pairs.{all_of}
