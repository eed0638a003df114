-- What the answer of a call comes to, and what comes of two things asked one after the other.
use Rattle.std.proofs.Common.{◌≡◌, ◌≢◌, ℕ, ℤ, Bool, true, false, inl, inr, Option, Some, None, Result, Ok, Err, refl, ap, subst, List}
use Rattle.queue_model.specs.Rules.{outcome}
use Rattle.queue_model.specs.State.{State}
use Rattle.queue_model.specs.declared.answer.Answer.{Answer}
use Rattle.queue_model.specs.declared.answer.Answer.TheVariants as answers
use Rattle.queue_model.specs.declared.call.Call.{Call}
use Rattle.queue_model.specs.declared.call.Call.TheVariants.{Get, Stat, Remove}
use Rattle.queue_model.specs.declared.call.GetArguments.{GetArguments}
use Rattle.queue_model.specs.declared.caller.Caller.{Caller}
use Rattle.queue_model.specs.declared.errno.Errno.{Errno}
use Rattle.queue_model.specs.declared.message.Message.{Message}
use Rattle.queue_commands.specs.Asking.{Asking, IsAnswered, IsAsked, Refuses, Then, Unless}
use Rattle.queue_commands.specs.Finding.{IsDone, set_call}
use Rattle.queue_commands.specs.Coming.{Comes, done_in, id_in, info_in, message_in, serial_in}
use Rattle.queue_commands.specs.Receiving.{IsTheOne, ShowsTheOne, TakesAs, receive_call}
use Rattle.queue_commands.specs.Sending.{SendsOneAs, send_call}
use Rattle.queue_commands.specs.declared.error.AskError.{AskError}
use Rattle.queue_commands.specs.declared.error.AskError.TheVariants as errors
use Rattle.queue_commands.specs.declared.request.Receiving.{Receiving}
use Rattle.queue_commands.specs.declared.request.Settings.{Settings}
use Rattle.queue_commands.proofs.AnswerLemmas.{Gives, a_get_gives, a_receive_gives, a_remove_gives, a_send_gives, a_set_gives, a_stat_gives, is_done, is_id, is_info, is_message, is_of_kind, is_serial, never_waits}

-- ---- one call

module _ (c : Caller) (call : Call) (s : State) (Stands : State → Type 0) (Lacks : Call → State → Type 0) where
  -- the answer is of no other kind
  other_kind : {A : Type 0} (kind : Answer → Bool) (answer : Answer) (t : State) → Gives kind (outcome c call s) →
      outcome c call s ≡ Some (answer, t) → kind answer ≡ false → A
  other_kind kind answer t gives is apart = absurd (let of = is_of_kind kind _ answer t gives is in cc)

  pub id_comes : Gives is_id (outcome c call s) → (came : Option Answer) →
      IsAsked c call s Stands (Lacks call s) came →
      Comes Stands Lacks (IsAnswered answers.Id c call s) (id_in came)
  id_comes gives None lacks = record { call = call; system = s; at = (refl, refl); cause = lacks }
  id_comes gives (Some (answers.Id id)) (t, is, stands) = record { system = t; is = is; stands = stands }
  id_comes gives (Some (answers.Sent serial)) (t, is, stands) = other_kind is_id _ t gives is refl
  id_comes gives (Some (answers.Received message)) (t, is, stands) = other_kind is_id _ t gives is refl
  id_comes gives (Some (answers.Info info)) (t, is, stands) = other_kind is_id _ t gives is refl
  id_comes gives (Some answers.Done) (t, is, stands) = other_kind is_id _ t gives is refl
  id_comes gives (Some (answers.Refused e)) (t, is, stands) = record { system = t; is = is; stands = stands }

  pub info_comes : Gives is_info (outcome c call s) → (came : Option Answer) →
      IsAsked c call s Stands (Lacks call s) came →
      Comes Stands Lacks (IsAnswered answers.Info c call s) (info_in came)
  info_comes gives None lacks = record { call = call; system = s; at = (refl, refl); cause = lacks }
  info_comes gives (Some (answers.Id id)) (t, is, stands) = other_kind is_info _ t gives is refl
  info_comes gives (Some (answers.Sent serial)) (t, is, stands) = other_kind is_info _ t gives is refl
  info_comes gives (Some (answers.Received message)) (t, is, stands) = other_kind is_info _ t gives is refl
  info_comes gives (Some (answers.Info info)) (t, is, stands) = record { system = t; is = is; stands = stands }
  info_comes gives (Some answers.Done) (t, is, stands) = other_kind is_info _ t gives is refl
  info_comes gives (Some (answers.Refused e)) (t, is, stands) = record { system = t; is = is; stands = stands }

  pub serial_comes : Gives is_serial (outcome c call s) → (came : Option Answer) →
      IsAsked c call s Stands (Lacks call s) came →
      Comes Stands Lacks (IsAnswered answers.Sent c call s) (serial_in came)
  serial_comes gives None lacks = record { call = call; system = s; at = (refl, refl); cause = lacks }
  serial_comes gives (Some (answers.Id id)) (t, is, stands) = other_kind is_serial _ t gives is refl
  serial_comes gives (Some (answers.Sent serial)) (t, is, stands) = record { system = t; is = is; stands = stands }
  serial_comes gives (Some (answers.Received message)) (t, is, stands) = other_kind is_serial _ t gives is refl
  serial_comes gives (Some (answers.Info info)) (t, is, stands) = other_kind is_serial _ t gives is refl
  serial_comes gives (Some answers.Done) (t, is, stands) = other_kind is_serial _ t gives is refl
  serial_comes gives (Some (answers.Refused e)) (t, is, stands) = record { system = t; is = is; stands = stands }

  pub message_comes : Gives is_message (outcome c call s) → (came : Option Answer) →
      IsAsked c call s Stands (Lacks call s) came →
      Comes Stands Lacks (IsAnswered answers.Received c call s) (message_in came)
  message_comes gives None lacks = record { call = call; system = s; at = (refl, refl); cause = lacks }
  message_comes gives (Some (answers.Id id)) (t, is, stands) = other_kind is_message _ t gives is refl
  message_comes gives (Some (answers.Sent serial)) (t, is, stands) = other_kind is_message _ t gives is refl
  message_comes gives (Some (answers.Received message)) (t, is, stands) =
      record { system = t; is = is; stands = stands }
  message_comes gives (Some (answers.Info info)) (t, is, stands) = other_kind is_message _ t gives is refl
  message_comes gives (Some answers.Done) (t, is, stands) = other_kind is_message _ t gives is refl
  message_comes gives (Some (answers.Refused e)) (t, is, stands) = record { system = t; is = is; stands = stands }

  pub done_comes : Gives is_done (outcome c call s) → (came : Option Answer) →
      IsAsked c call s Stands (Lacks call s) came →
      Comes Stands Lacks (IsDone c call s) (done_in came)
  done_comes gives None lacks = record { call = call; system = s; at = (refl, refl); cause = lacks }
  done_comes gives (Some answers.Done) (t, is, stands) = record { system = t; is = (is, refl); stands = stands }
  done_comes gives (Some (answers.Refused e)) (t, is, stands) = record { system = t; is = is; stands = stands }
  done_comes gives (Some (answers.Id id)) (t, is, stands) = other_kind is_done _ t gives is refl
  done_comes gives (Some (answers.Sent serial)) (t, is, stands) = other_kind is_done _ t gives is refl
  done_comes gives (Some (answers.Received message)) (t, is, stands) = other_kind is_done _ t gives is refl
  done_comes gives (Some (answers.Info info)) (t, is, stands) = other_kind is_done _ t gives is refl

-- ---- the calls that a command makes, none of which waits

-- what is asked of who answers, of a call that does not wait
abbrev pub Asks : Caller → Call → State → (State → Type 0) → (Call → State → Type 0) → Option Answer → Type 0
Asks c call s Stands Lacks came = (outcome c call s ≡ None → ⊥) → IsAsked c call s Stands (Lacks call s) came

module _ (c : Caller) (s : State) (Stands : State → Type 0) (Lacks : Call → State → Type 0) (came : Option Answer)
  where
    pub gets : (a : GetArguments) → Asks c (Get a) s Stands Lacks came →
        Comes Stands Lacks (IsAnswered answers.Id c (Get a) s) (id_in came)
    gets a asks =
        let gives = a_get_gives c a s in
        id_comes c (Get a) s Stands Lacks gives came (asks (never_waits is_id _ gives))

    pub stats : (id : ℕ) → Asks c (Stat id) s Stands Lacks came →
        Comes Stands Lacks (IsAnswered answers.Info c (Stat id) s) (info_in came)
    stats id asks =
        let gives = a_stat_gives c id s in
        info_comes c (Stat id) s Stands Lacks gives came (asks (never_waits is_info _ gives))

    pub removes : (id : ℕ) → Asks c (Remove id) s Stands Lacks came →
        Comes Stands Lacks (IsDone c (Remove id) s) (done_in came)
    removes id asks =
        let gives = a_remove_gives c id s in
        done_comes c (Remove id) s Stands Lacks gives came (asks (never_waits is_done _ gives))

module _ (c : Caller) (moment : ℕ) (s : State) (Stands : State → Type 0) (Lacks : Call → State → Type 0)
    (came : Option Answer) where
  sent : (mtype : ℤ) (id : ℕ) (body : List ℕ) → Asks c (send_call moment mtype id body) s Stands Lacks came →
      Comes Stands Lacks (SendsOneAs c moment mtype id body s) (serial_in came)
  sent mtype id body asks =
      let gives =
      a_send_gives c (record { id = id; mtype = mtype; body = body; nowait = true; moment = moment }) s refl in
      serial_comes c (send_call moment mtype id body) s Stands Lacks gives came (asks (never_waits is_serial _ gives))

  -- of a copy of the body
  pub sends : (mtype : ℤ) (id : ℕ) (body : List ℕ) (given : ℤ) (copy : List ℕ) → given ≡ mtype → copy ≡ body →
      Asks c (send_call moment given id copy) s Stands Lacks came →
      Comes Stands Lacks (SendsOneAs c moment mtype id body s) (serial_in came)
  sends mtype id body given copy same kept asks =
      subst (λ (t : ℤ). Comes Stands Lacks (SendsOneAs c moment t id body s) (serial_in came)) same
      (subst (λ (b : List ℕ). Comes Stands Lacks (SendsOneAs c moment given id b s) (serial_in came)) kept
      (sent given id copy asks))

  taken : (a : Receiving) (id : ℕ) → Asks c (receive_call moment a id) s Stands Lacks came →
      Comes Stands Lacks (TakesAs c moment a id s) (message_in came)
  taken a id asks =
      let gives = a_receive_gives c (record {
        id = id;
        size = a.size;
        mtype = a.mtype;
        nowait = true;
        noerror = a.noerror;
        moment = moment;
      }) s refl in
      message_comes c (receive_call moment a id) s Stands Lacks gives came (asks (never_waits is_message _ gives))

  pub takes : (a : Receiving) (id : ℕ) (given : ℤ) → given ≡ a.mtype →
      Asks c (receive_call moment (record a { mtype = given }) id) s Stands Lacks came →
      Comes Stands Lacks (TakesAs c moment a id s) (message_in came)
  takes a id given same asks =
      subst (λ (t : ℤ). Comes Stands Lacks (TakesAs c moment (record a { mtype = t }) id s) (message_in came)) same
      (taken (record a { mtype = given }) id asks)

  pub sets : (a : Settings) (id qbytes : ℕ) → Asks c (set_call moment a id qbytes) s Stands Lacks came →
      Comes Stands Lacks (IsDone c (set_call moment a id qbytes) s) (done_in came)
  sets a id qbytes asks =
      let gives = a_set_gives c (record {
        id = id;
        qbytes = qbytes;
        uid = a.uid;
        gid = a.gid;
        mode = a.mode;
        moment = moment;
      }) s in
      done_comes c (set_call moment a id qbytes) s Stands Lacks gives came (asks (never_waits is_done _ gives))

-- ---- two things

module _ {A B : Type 0} (first : Asking A) (next : A → State → Asking B) (Lacks : Call → State → Type 0) where
  -- the first has a value, and the second is asked
  pub goes_on : (x : A) (Middle Stands : State → Type 0) (Lacked : Call → State → Type 0) (came : Result B AskError) →
      Comes Middle Lacked first (Ok x) →
      ((u : State) → Middle u → Comes Stands Lacks (next x u) came) →
      Comes Stands Lacks (Then first next) came
  goes_on x Middle Stands Lacked (Ok y) before asks =
      let last = asks before.system before.stands in
      record { system = last.system; is = (x, before.system, before.is, last.is); stands = last.stands }
  goes_on x Middle Stands Lacked (Err (errors.Refused e)) before asks =
      let last = asks before.system before.stands in
      record { system = last.system; is = inr (x, before.system, before.is, last.is); stands = last.stands }
  goes_on x Middle Stands Lacked (Err errors.Unanswered) before asks =
      let last = asks before.system before.stands in
      record {
        call = last.call;
        system = last.system;
        at = inr (x, before.system, before.is, last.at);
        cause = last.cause;
      }
  goes_on x Middle Stands Lacked (Err errors.NoMemory) before asks = tt

  -- the first has none
  pub ends : (Stands : State → Type 0) (error : AskError) → Comes Stands Lacks first (Err error) →
      Comes Stands Lacks (Then first next) (Err error)
  ends Stands (errors.Refused e) before =
      record { system = before.system; is = inl before.is; stands = before.stands }
  ends Stands errors.Unanswered before =
      record { call = before.call; system = before.system; at = inl before.at; cause = before.cause }
  ends Stands errors.NoMemory before = tt

-- by each caller, from each system that stood first
module _ {A B : Type 0} (first : Caller → State → Asking A) (next : Caller → A → State → Asking B)
    (First Middle Stands : Caller → State → Type 0) (Lacked Lacks : Caller → Call → State → Type 0) where
  pub asks_both : (x : A) (came : Result B AskError) →
      ((a : Caller) (s : State) → First a s → Comes (Middle a) (Lacked a) (first a s) (Ok x)) →
      ((a : Caller) (u : State) → Middle a u → Comes (Stands a) (Lacks a) (next a x u) came) →
      (a : Caller) (s : State) → First a s →
      Comes (Stands a) (Lacks a) (Then (first a s) (next a)) came
  asks_both x came finds asks a s stands =
      goes_on (first a s) (next a) (Lacks a) x (Middle a) (Stands a) (Lacked a) came (finds a s stands)
      (asks a)

-- ---- one thing, or another in its place

module _ {A : Type 0} (e : Errno) (first : Asking A) (next : State → Asking A) (Stands : State → Type 0)
    (Lacks : Call → State → Type 0) where
  -- the first is refused so, and the other is asked
  pub goes_to : (Middle : State → Type 0) (Lacked : Call → State → Type 0) (came : Result A AskError) →
      Comes Middle Lacked first (Err (errors.Refused e)) →
      ((u : State) → Middle u → Comes Stands Lacks (next u) came) →
      Comes Stands Lacks (Unless e first next) came
  goes_to Middle Lacked (Ok x) before asks =
      let last = asks before.system before.stands in
      record { system = last.system; is = inr (before.system, before.is, last.is); stands = last.stands }
  goes_to Middle Lacked (Err (errors.Refused d)) before asks =
      let last = asks before.system before.stands in
      record { system = last.system; is = inr (before.system, before.is, last.is); stands = last.stands }
  goes_to Middle Lacked (Err errors.Unanswered) before asks =
      let last = asks before.system before.stands in
      record {
        call = last.call;
        system = last.system;
        at = inr (before.system, before.is, last.at);
        cause = last.cause;
      }
  goes_to Middle Lacked (Err errors.NoMemory) before asks = tt

  -- or is not
  pub stays : (came : Result A AskError) → came ≢ Err (errors.Refused e) → Comes Stands Lacks first came →
      Comes Stands Lacks (Unless e first next) came
  stays (Ok x) apart before =
      record { system = before.system; is = inl ((λ is. absurd cc), before.is); stands = before.stands }
  stays (Err (errors.Refused d)) apart before =
      record {
        system = before.system;
        is = inl ((λ is. apart (let same : d ≡ e = cc in ap (λ (f : Errno). Err (errors.Refused f)) same)), before.is);
        stands = before.stands;
      }
  stays (Err errors.Unanswered) apart before =
      record {
        call = before.call;
        system = before.system;
        at = inl ((λ is. absurd cc), before.at);
        cause = before.cause;
      }
  stays (Err errors.NoMemory) apart before = tt

-- ---- one message, and whether it is the one

-- its text, or why there is none, comes of it
pub is_the_one : (serial : ℕ) (heads : Bool) (m : Message) (s : State) (Stands : State → Type 0)
    (Lacks : Call → State → Type 0) (came : Result (List ℕ) AskError) → ShowsTheOne serial heads m came → Stands s →
    Comes Stands Lacks (IsTheOne serial heads m s) came
is_the_one serial heads m s Stands Lacks (Ok text) (is, shown) stands =
    record { system = s; is = (is, shown, refl); stands = stands }
is_the_one serial heads m s Stands Lacks (Err (errors.Refused e)) (apart, is) stands =
    record { system = s; is = (apart, ap Refuses is, refl); stands = stands }
is_the_one serial heads m s Stands Lacks (Err errors.Unanswered) shows stands = absurd shows
is_the_one serial heads m s Stands Lacks (Err errors.NoMemory) shows stands = tt
