-- Words of the crates below, under one name for the proofs of this one.
pub use Rattle.bucket_page.specs.Bucket.{Bucket}
pub use Rattle.bucket_page.specs.Records.{Pair, ascend, lookup}
pub use Rattle.bucket_page.specs.declared.page.PageKind.{PageKind}
pub use Rattle.bucket_page.specs.declared.record_key.RecordKey.{RecordKey}
pub use Rattle.directory.specs.declared.header.Header.{Header}
pub use Rattle.directory.specs.declared.layout.TheConstants.{GREATEST_DEPTH, LEAST_PAGES, LOCAL_DEPTHS, ROOT_PAGE}
pub use Rattle.file_walk.proofs.Today.{pages_length}
pub use Rattle.file_walk.proofs.Today.{structure_sound}
pub use Rattle.file_walk.specs.Laws.{IsQuietFile}
pub use Rattle.file_walk.specs.Structure.{IsRightStructure}
pub use Rattle.file_walk.specs.Walks.{IsRightChain}
pub use Rattle.hash_file.proofs.Contents.{contents_are_pairs}
pub use Rattle.hash_file.proofs.Lists.{lookup_before}
pub use Rattle.hash_file.proofs.New.{new_sound}
pub use Rattle.hash_file.specs.Chain.{IsPlaced, times}
pub use Rattle.hash_file.specs.Change.{Quiet}
pub use Rattle.hash_file.specs.New.{IsNew, follower}
pub use Rattle.hash_file.specs.Sound.{HasLayout, IsSoundFile}
pub use Rattle.hash_file.specs.Store.{Store, bucket_of, entry_at, is_bucket, page_at, range_at, range_of}
pub use Rattle.directory.proofs.MemberLaws.{contains_cases, contains_head, contains_none}
pub use Rattle.directory.proofs.PartitionLaws.{tiles_partition}
pub use Rattle.directory.specs.Ranges.{Covers}
pub use Rattle.queue_model.proofs.ListLemmas.{find-Some}
pub use Rattle.queue_model.specs.Rules.{has_id}
pub use Rattle.queue_model.specs.declared.queue.Queue.{Queue}
pub use Rattle.queue_records.specs.Spelling.{key_of, value_of}
pub use Rattle.record_file.proofs.FileLemmas.{read_again}
pub use Rattle.record_file.specs.Files.{IsFile, free_behind, root_bucket}
pub use Rattle.record_walk.specs.Held.{Holds}
pub use Rattle.record_walk.specs.Systems.{HasSystem}
pub use Rattle.record_walk.specs.Words.{key_of_queue}
pub use Rattle.std.proofs.lemmas.Bool.{cases_eq, eq-eqb, le-ltb, lt-ltb, ne_eqb}
pub use Rattle.std.proofs.lemmas.List.{append-nil, get_or-replicate, get_or_append_left, length-replicate}
pub use Rattle.std.proofs.lemmas.List.Concat.{flat_map-cons}
pub use Rattle.std.proofs.lemmas.List.Elements.{All-cons, All-nil}
pub use Rattle.std.specs.List.{All, Contains, find, flat_map}
pub use Rattle.std.specs.Option.{option_map}
pub use Rattle.type_chains.proofs.Cases.{found_id}
pub use Rattle.type_chains.proofs.Images.{image_has}
pub use Rattle.type_chains.proofs.Members.{in_flat_map, in_map}
pub use Rattle.type_chains.proofs.Pairs.{all_of}
pub use Rattle.type_chains.proofs.Spelled.{spelled}
pub use Rattle.type_chains.specs.Image.{image}
pub use Rattle.type_chains.specs.RecordOf.{record_of}
