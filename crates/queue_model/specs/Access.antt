-- Owners and modes: who may read, write, set and remove.
-- docs/QUEUES.md, "Owners and modes".
use Rattle.std.specs.Prelude.{ℕ, ◌/◌, ◌%◌, ◌==◌, Bool, not, ◌&&◌, ◌||◌, if◌then◌else◌, bit_and, unwrap_or}
use Rattle.queue_model.specs.declared.caller.Caller.{Caller}
use Rattle.queue_model.specs.declared.call.SetArguments.{SetArguments}
use Rattle.queue_model.specs.declared.permissions.Access.{Access}
use Rattle.queue_model.specs.declared.permissions.Access.TheVariants.{Read, Write}
use Rattle.queue_model.specs.declared.permissions.Permissions.{Permissions}
use Rattle.queue_model.specs.declared.permissions.TheConstants.{READ, WRITE}
use Rattle.numbers.specs.declared.limits.TheConstants.{MODES, SUPERUSER}

-- the owner, creator and mode of a new queue
abbrev pub permissions_of : Caller → ℕ → Permissions
permissions_of c mode = record { uid = c.uid; gid = c.gid; cuid = c.uid; cgid = c.gid; mode = mode % MODES }

-- owner, creator and user 0 may set and remove
abbrev pub is_owner : Caller → Permissions → Bool
is_owner c p = c.uid == SUPERUSER || c.uid == p.uid || c.uid == p.cuid

-- the octal digit of the mode that counts for a caller: the owner's, the group's or the others'
abbrev pub digit_of : Caller → Permissions → ℕ
digit_of c p =
    if c.uid == p.uid || c.uid == p.cuid then p.mode / 64
    else if c.gid == p.gid || c.gid == p.cgid then p.mode / 8 % 8
    else p.mode % 8

-- the bit of that digit that a call needs
abbrev pub bit_of : Access → ℕ
bit_of Read = READ
bit_of Write = WRITE

-- the caller is not user 0, and its digit lacks the bit
abbrev pub lacks_access : Access → Caller → Permissions → Bool
lacks_access access c p = not (c.uid == SUPERUSER) && bit_and (digit_of c p) (bit_of access) == 0

-- the permissions after a Set: what is given is taken, and the creator stays
abbrev pub changed : SetArguments → Permissions → Permissions
changed a p = record p {
  uid = unwrap_or a.uid p.uid;
  gid = unwrap_or a.gid p.gid;
  mode = unwrap_or a.mode p.mode % MODES;
}
