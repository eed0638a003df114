-- Words of the crates below, under one name.
pub use Rattle.bucket_page.specs.Keys.{is_same}
pub use Rattle.file_pages.specs.declared.fault.FileFault.{FileFault}
pub use Rattle.queue_records.specs.Keys.{guard_of}
