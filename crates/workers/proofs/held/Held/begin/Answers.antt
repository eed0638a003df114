use Rattle.std.proofs.Common.{◌≤◌, sym, subst}
use Rattle.interleaving_core.specs.Beginning.{Refuses}
use Rattle.workers.proofs.BeginLemmas.{begun_at_desk, counted_at_begin, counted_at_refusal, full_by, has_begun, is_turned_away, kept_at_begin, kept_at_refusal, never_busy, refused_at_desk}
use Rattle.workers.proofs.held.Held.begin.Goals as goal

-- the seat has its call, and nothing joins the journal
pub tell-requires-clause-change : goal.tell-requires-clause-change
tell-requires-clause-change g c =
    begun_at_desk _ _ _ _ c.in-Ok.ensures.ok c.requires.within.0
    (subst (λ n. c.args.seat ≤ n) (sym c.self.invariant.held.seats) c.requires.within.1) _ _ c.self.invariant.held.known
    c.requires.seat

pub tell-requires-clause-count : goal.tell-requires-clause-count
tell-requires-clause-count g c =
    counted_at_begin _ _ _ _ c.in-Ok.ensures.ok c.requires.within.0
    (subst (λ n. c.args.seat ≤ n) (sym c.self.invariant.held.seats) c.requires.within.1) _
    c.self.invariant.held.counted

pub returns-in-Ok-clause-ok : goal.returns-in-Ok-clause-ok
returns-in-Ok-clause-ok g c =
    has_begun _ _ _ _ c.in-Ok.ensures.ok c.requires.within.0
    (subst (λ n. c.args.seat ≤ n) (sym c.self.invariant.held.seats) c.requires.within.1) c.self.inside.pass _ _
    c.self.invariant.held.known c.requires.seat c.tell.ensures.right c.tell.ensures.seat

pub invariant_of-self : goal.invariant_of-self
invariant_of-self g c =
    kept_at_begin _ _ _ _ c.in-Ok.ensures.ok c.requires.within.0
    (subst (λ n. c.args.seat ≤ n) (sym c.self.invariant.held.seats) c.requires.within.1) _ _ _ _ _
    c.begins_refine.ensures
    (c.requires.within.0, subst (λ n. c.args.seat ≤ n) (sym c.self.invariant.held.rows) c.requires.within.1)
    c.self.invariant c.tell.ensures.own

-- a refusal leaves the kernel as it was, and its seat is shown that
pub tell-requires-in-Err-clause-change : goal.tell-requires-in-Err-clause-change
tell-requires-in-Err-clause-change g c =
    refused_at_desk _ _ _ _ _ c.in-Err.ensures.err _ _ c.self.invariant.held.known c.requires.seat

pub tell-requires-in-Err-clause-count : goal.tell-requires-in-Err-clause-count
tell-requires-in-Err-clause-count g c =
    counted_at_refusal _ _ _ _ _ c.in-Err.ensures.err _ c.self.invariant.held.counted

pub invariant_of-self-in-Failed : goal.invariant_of-self-in-Failed
invariant_of-self-in-Failed g c =
    kept_at_refusal _ _ _ _ _ c.in-Err.ensures.err _ _ _ _ _ c.refusals_refine.ensures c.self.invariant
    c.tell-in-Err.ensures.own

pub returns-in-Failed-clause-err : goal.returns-in-Failed-clause-err
returns-in-Failed-clause-err g c =
    let broken = subst (λ fault. Refuses c.args.seat c.self.inside.kernel fault) c.in-Failed.is
    c.in-Err.ensures.err.cause in
    is_turned_away _ _ _ _ _ c.in-Err.ensures.err _ _ c.self.inside.pass _ _ (λ _. broken) (λ full. absurd cc)
    (λ early. absurd cc) c.self.invariant.held.known c.tell-in-Err.ensures.right c.tell-in-Err.ensures.seat

pub invariant_of-self-in-SessionFull : goal.invariant_of-self-in-SessionFull
invariant_of-self-in-SessionFull g c =
    kept_at_refusal _ _ _ _ _ c.in-Err.ensures.err _ _ _ _ _ c.refusals_refine.ensures c.self.invariant
    c.tell-in-Err.ensures.own

pub returns-in-SessionFull-clause-err : goal.returns-in-SessionFull-clause-err
returns-in-SessionFull-clause-err g c =
    let full = subst (λ fault. Refuses c.args.seat c.self.inside.kernel fault) c.in-SessionFull.is
    c.in-Err.ensures.err.cause in
    is_turned_away _ _ _ _ _ c.in-Err.ensures.err _ _ c.self.inside.pass _ _ (λ broken. absurd cc)
    (λ _. full_by _ _ _ _ _ c.self.invariant.held full.2) (λ early. absurd cc)
    c.self.invariant.held.known c.tell-in-Err.ensures.right c.tell-in-Err.ensures.seat

pub invariant_of-self-in-NoMemory : goal.invariant_of-self-in-NoMemory
invariant_of-self-in-NoMemory g c =
    kept_at_refusal _ _ _ _ _ c.in-Err.ensures.err _ _ _ _ _ c.refusals_refine.ensures c.self.invariant
    c.tell-in-Err.ensures.own

pub returns-in-NoMemory-clause-err : goal.returns-in-NoMemory-clause-err
returns-in-NoMemory-clause-err g c =
    is_turned_away _ _ _ _ _ c.in-Err.ensures.err _ _ c.self.inside.pass _ _ (λ broken. absurd cc) (λ full. absurd cc)
    (λ early. absurd cc) c.self.invariant.held.known c.tell-in-Err.ensures.right c.tell-in-Err.ensures.seat

-- a seat that rests is not busy
pub unreachable-requires : goal.unreachable-requires
unreachable-requires g c =
    let busy = subst (λ fault. Refuses c.args.seat c.self.inside.kernel fault) c.in-Busy.is
    c.in-Err.ensures.err.cause in
    never_busy _ _ _ _ _ _ _ c.self.invariant.held c.tell-in-Err.ensures.right c.requires.seat
    c.requires.rests busy.0 busy.1
