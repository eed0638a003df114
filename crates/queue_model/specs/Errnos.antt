-- The numbers and names of the refusals.
-- docs/QUEUES.md, "Refusals".
use Rattle.std.specs.Prelude.{ℕ, List, codes}
use Rattle.queue_model.specs.declared.errno.Errno.{Errno}
use Rattle.queue_model.specs.declared.errno.Errno.TheVariants.{E2BIG, EAGAIN, EEXIST, EIDRM, EINTR, EINVAL, ENOENT, ENOMSG, ENOSPC, EACCES, EPERM}

-- the number of a refusal
abbrev pub number_of : Errno → ℕ
number_of E2BIG = 1
number_of EAGAIN = 2
number_of EEXIST = 3
number_of EIDRM = 4
number_of EINTR = 5
number_of EINVAL = 6
number_of ENOENT = 7
number_of ENOMSG = 8
number_of ENOSPC = 9
number_of EACCES = 10
number_of EPERM = 11

-- the ASCII letters of its name
abbrev pub name_of : Errno → List ℕ
name_of E2BIG = codes "E2BIG"
name_of EAGAIN = codes "EAGAIN"
name_of EEXIST = codes "EEXIST"
name_of EIDRM = codes "EIDRM"
name_of EINTR = codes "EINTR"
name_of EINVAL = codes "EINVAL"
name_of ENOENT = codes "ENOENT"
name_of ENOMSG = codes "ENOMSG"
name_of ENOSPC = codes "ENOSPC"
name_of EACCES = codes "EACCES"
name_of EPERM = codes "EPERM"
