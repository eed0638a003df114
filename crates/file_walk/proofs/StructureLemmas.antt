-- The tests in their order make up the structure, and what each finds is the first thing that is wrong.
use Rattle.std.proofs.Common.{ℕ, ◌⊎◌, List, subst, inl, inr}
use Rattle.hash_file.specs.Store.{Store}
use Rattle.file_walk.specs.declared.fault.StructureFault.{StructureFault}
use Rattle.file_walk.specs.Files.{file_in}
use Rattle.file_walk.specs.Order.{IsReadingFaultIn, LacksMemory}
use Rattle.file_walk.specs.Readings.{IsOutlineOf}
use Rattle.file_walk.specs.Structure.{HasPagesIn, IsFirstFaultIn, IsStructureIn}
use Rattle.file_walk.specs.Walks.{IsRightChain, HasRightSpares, IsRightDirectory, IsChainFault, IsSparesFault, IsDirectoryFault}
use Rattle.file_walk.proofs.OutlinedLemmas.{chain_of_file, spares_of_file, directory_of_file, chain_fault, spares_fault, directory_fault, of_machine}
use Rattle.directory.specs.declared.layout.Layout.{Layout}
use Rattle.directory.specs.Layouts.{IsLayout}

module _ (l : Layout) (laid : IsLayout l) where
  pub reading_first : (content : List (List ℕ)) (fault : StructureFault) → IsReadingFaultIn l content fault →
      IsFirstFaultIn l content fault
  reading_first content fault (inl machine) = inl machine
  reading_first content fault (inr (inl header)) = inr (inl header)
  reading_first content fault (inr (inr page)) = inr (inr (inl page))

  module _ (content : List (List ℕ)) (t : Store) (fault : StructureFault) (o : IsOutlineOf l content t) where
    pages : HasPagesIn l content
    pages = record { header = o.header; pages = o.pages }

    pub chain_first : LacksMemory fault ⊎ IsChainFault t fault → IsFirstFaultIn l content fault
    chain_first (inl memory) = inl (of_machine fault memory)
    chain_first (inr wrong) = inr (inr (inr (inl (record {
      pages = pages;
      wrong = chain_fault (file_in l content) fault (subst (λ x. IsChainFault x fault) o.value wrong);
    }))))

    pub spares_first : (ns : List ℕ) → IsRightChain t ns → LacksMemory fault ⊎ IsSparesFault t ns fault →
        IsFirstFaultIn l content fault
    spares_first ns c (inl memory) = inl (of_machine fault memory)
    spares_first ns c (inr wrong) = inr (inr (inr (inr (inl (record {
      pages = pages;
      chain = ns;
      chain_is = chain_of_file (file_in l content) ns (subst (λ x. IsRightChain x ns) o.value c);
      wrong = spares_fault (file_in l content) ns fault (subst (λ x. IsSparesFault x ns fault) o.value wrong);
    })))))

    pub directory_first : (ns : List ℕ) → IsRightChain t ns → HasRightSpares t ns → IsDirectoryFault t ns fault →
        IsFirstFaultIn l content fault
    directory_first ns c h wrong = inr (inr (inr (inr (inr (record {
      pages = pages;
      chain = ns;
      chain_is = chain_of_file (file_in l content) ns (subst (λ x. IsRightChain x ns) o.value c);
      spares = spares_of_file (file_in l content) ns (subst (λ x. HasRightSpares x ns) o.value h);
      wrong = directory_fault (file_in l content) ns fault (subst (λ x. IsDirectoryFault x ns fault) o.value wrong);
    })))))

  pub structure_right : (content : List (List ℕ)) (t : Store) (ns : List ℕ) → IsOutlineOf l content t
      → IsRightChain t ns →
      HasRightSpares t ns → IsRightDirectory t ns → IsStructureIn l content t ns
  structure_right content t ns o c h d = record {
    right = record {
      pages = record { header = o.header; pages = o.pages };
      chain = chain_of_file (file_in l content) ns (subst (λ x. IsRightChain x ns) o.value c);
      spares = spares_of_file (file_in l content) ns (subst (λ x. HasRightSpares x ns) o.value h);
      index = directory_of_file (file_in l content) ns (subst (λ x. IsRightDirectory x ns) o.value d);
    };
    outline_is = o.value;
  }
