-- Whether the id was given out is told the inquiry of the call's kind.
use Rattle.std.proofs.Common.{rules, ◌≡◌, sym, subst, Bool, Result}
use Rattle.call_decisions.specs.Anything.{KnowsOf, asked_of}
use Rattle.call_decisions.specs.InquiryWords.{Call, IsToldGiven, NotASystem, Roomful, State}
use Rattle.call_decisions.specs.declared.any_inquiry.AnyInquiry.{AnyInquiry}
use Rattle.xsi_control.specs.xsi_inquiry.Telling.{AsksGiven, Gives}
use Rattle.call_decisions.proofs.any_inquiry.AnyInquiryInquiry.take_given.Goals as goal
use Rattle.call_decisions.proofs.any_inquiry.AnyInquiryInquiry.take_given.Goals.{in-Get-Get, in-Send-Send, in-Receive-Receive, in-Stat-Stat, in-Set-Set, in-Remove-Remove, in_default, in_default-2, in_default-3, in_default-4, in_default-5, in_default-6}

-- what it knows then, where it was told
abbrev Told : Call → AnyInquiry → AnyInquiry → Result (Unit {0}) NotASystem → Bool → Roomful → State → Type 0
Told call old new result given room s = KnowsOf call old room s → AsksGiven (asked_of call old) →
    IsToldGiven s (asked_of call old) given → Gives result (λ _. KnowsOf call new room s)

told_so : (call its_call : Call) (old its_old new its_new : AnyInquiry)
    (result its_result : Result (Unit {0}) NotASystem)
    (given : Bool) (room : Roomful) (s : State) → call ≡ its_call → old ≡ its_old → new ≡ its_new →
    result ≡ its_result →
    Told its_call its_old its_new its_result given room s → Told call old new result given room s
told_so call its_call old its_old new its_new result its_result given room s call_is old_is new_is result_is law =
    subst (λ x. Told x old new result given room s) (sym call_is)
    (subst (λ x. Told its_call x new result given room s) (sym old_is)
    (subst (λ x. Told its_call its_old x result given room s) (sym new_is)
    (subst (λ x. Told its_call its_old its_new x given room s) (sym result_is) law)))

pub returns-clause-told : goal.returns-clause-told
returns-clause-told c = λ room s filed knew asks told. elim c.match-self.branch [
  | in-Get-Get w ↦ told_so c.args.call.now _ c.args.self.now _ c.match-self.self _ c.match-self.result _ c.args.given
      room s
      w.in-Get-Get.is-1 w.in-Get-Get.is-0 w.self-is w.result-is (w.take_given.ensures.told room s filed) knew asks told
  | in-Send-Send w ↦ told_so c.args.call.now _ c.args.self.now _ c.match-self.self _ c.match-self.result _ c.args.given
      room s w.in-Send-Send.is-1 w.in-Send-Send.is-0 w.self-is w.result-is
      (w.take_given-in-Send-Send.ensures.told room s filed) knew asks told
  | in-Receive-Receive w ↦ told_so c.args.call.now _ c.args.self.now _ c.match-self.self _ c.match-self.result _
      c.args.given room s w.in-Receive-Receive.is-1 w.in-Receive-Receive.is-0 w.self-is w.result-is
      (w.take_given-in-Receive-Receive.ensures.told room s filed) knew asks told
  | in-Stat-Stat w ↦ told_so c.args.call.now _ c.args.self.now _ c.match-self.self _ c.match-self.result _ c.args.given
      room s w.in-Stat-Stat.is-1 w.in-Stat-Stat.is-0 w.self-is w.result-is
      (w.take_given-in-Stat-Stat.ensures.told room s filed) knew asks told
  | in-Set-Set w ↦ told_so c.args.call.now _ c.args.self.now _ c.match-self.self _ c.match-self.result _ c.args.given
      room s w.in-Set-Set.is-1 w.in-Set-Set.is-0 w.self-is w.result-is
      (w.take_given-in-Set-Set.ensures.told room s filed) knew asks told
  | in-Remove-Remove w ↦ told_so c.args.call.now _ c.args.self.now _ c.match-self.self _ c.match-self.result _
      c.args.given room s w.in-Remove-Remove.is-1 w.in-Remove-Remove.is-0 w.self-is w.result-is
      (w.take_given-in-Remove-Remove.ensures.told room s filed) knew asks told
  | in_default w ↦ search rules
  | in_default-2 w ↦ search rules
  | in_default-3 w ↦ search rules
  | in_default-4 w ↦ search rules
  | in_default-5 w ↦ search rules
  | in_default-6 w ↦ search rules
]
