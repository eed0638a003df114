-- What a seat holds are names of its call.
use Rattle.std.proofs.Common.{◌≡◌, refl, sym, ap, ◌∙◌, subst, List, [], ◌∷◌, ◌++◌, append-nil, append_assoc}
use Rattle.xsi_calls.proofs.OrderLemmas.{begin_are_names}
use Rattle.xsi_calls.specs.QuestionWords.{AnyInquiry, AreNames, Blocked, Call, Ended, Fault, GivesBack, Lock, Moved, Progress, names_for}
use Rattle.xsi_calls.specs.Questions.{AreNamesOf}
use Rattle.xsi_calls.proofs.QuestionNames.{take_in_order}

-- no name at all
pub none_held : (call : Call) (i : AnyInquiry) (held : List Lock) → held ≡ [] → AreNamesOf call held
none_held call i held none =
    subst (AreNamesOf call) (sym none) (record { come = i; begins = (names_for call i, refl) })

-- all that it needs
pub all_held : (call : Call) (i : AnyInquiry) (held : List Lock) → held ≡ names_for call i → AreNamesOf call held
all_held call i held all = record { come = i; begins = ([], sym all ∙ sym (append-nil held)) }

-- those that are left once the last is given back
pub but_the_last : (call : Call) (held rest : List Lock) (last : Lock) → held ≡ rest ++ last ∷ [] →
    AreNamesOf call held → AreNamesOf call rest
but_the_last call held rest last is names = record {
  come = names.come;
  begins = (
    last ∷ names.begins.0,
    names.begins.1 ∙ ap (λ (xs : List Lock). xs ++ names.begins.0) is
        ∙ append_assoc rest (last ∷ []) names.begins.0,
  );
}

pub given_back : {F : Type 0} (call : Call) (did : Progress F) (held rest : List Lock) → GivesBack did held rest →
    AreNamesOf call held → AreNamesOf call rest
given_back call (Moved kind) held rest gives names = but_the_last call held rest gives.1.0 gives.1.1 names
given_back call (Blocked other) held rest gives names = absurd gives
given_back call (Fault fault) held rest gives names = absurd gives
given_back call Ended held rest gives names = none_held call names.come rest gives.1

-- so they stand in order, each once, and are few
pub in_order : (call : Call) (held : List Lock) → AreNamesOf call held → AreNames held
in_order call held names =
    begin_are_names held names.begins.0 (subst AreNames names.begins.1 (take_in_order call names.come))
