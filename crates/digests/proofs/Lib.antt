mod Rotations
mod ChMaj
mod RowLemmas
mod ColumnLemmas
mod PageWords
mod RunLemmas
mod ShortLemmas
