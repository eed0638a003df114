-- Words of the crates below, under one name.
pub use Rattle.call_decisions.specs.Anything.{IsOfKind, KnowsOf, asked_of, caller_of, if_of, locked_of, of_receive, of_send, of_set}
pub use Rattle.call_decisions.specs.InquiryWords.{KnowsOfGet, Roomful, get_locked, get_wanted}
pub use Rattle.call_decisions.specs.declared.any_inquiry.AnyInquiry.{AnyInquiry}
pub use Rattle.numbers.specs.declared.limits.TheConstants.{END_OF_IDS, MAX_QUEUES}
pub use Rattle.queue_model.proofs.EffectLemmas.{Effect-outcome}
pub use Rattle.queue_model.specs.Rules.{Outcome, create, has_key, new_queue, refuse}
pub use Rattle.queue_model.specs.declared.call.GetArguments.{GetArguments}
pub use Rattle.queue_model.specs.declared.errno.Errno.{Errno}
pub use Rattle.queue_records.specs.Keys.{key_of_key}
pub use Rattle.queue_records.specs.Spelling.{counter_key}
pub use Rattle.queue_records.specs.declared.counter.Counter.{Counter}
pub use Rattle.type_chains.specs.Entries.{counter_of, key_entry}
pub use Rattle.type_chains.specs.Others.{queue_of}
pub use Rattle.xsi_control.specs.Getting.{key_names, key_wanted, made_names, making_names, one_more}
pub use Rattle.xsi_control.specs.declared.get_inquiry.Getting.{Getting}
pub use Rattle.xsi_inquiry.proofs.OthersLemmas.{agrees_by_others}
pub use Rattle.xsi_inquiry.specs.Agreeing.{AgreeOnCall, AgreeOnCounter, AgreeOnId, AgreeOnKey}
pub use Rattle.xsi_inquiry.specs.Seeking.{sought_next}
pub use Rattle.xsi_inquiry.specs.Telling.{IsFiled}
pub use Rattle.xsi_control.specs.Asking.{asked, locked_at}
pub use Rattle.xsi_control.specs.Knowing.{KnowsAt}
pub use Rattle.xsi_control.specs.declared.stage.Stage.{Stage}
