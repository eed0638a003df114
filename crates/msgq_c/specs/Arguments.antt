-- The calls that C's arguments are. docs/QUEUES.md, "Calls".
use Rattle.std.specs.Prelude.{ℕ, Bool, List, Option, Some, None, if◌then◌else◌}
use Rattle.queue_model.specs.declared.call.Call.{Call}
use Rattle.queue_model.specs.declared.call.Call.TheVariants as calls
use Rattle.msgq_c.specs.declared.arguments.GetCall.{GetCall}
use Rattle.msgq_c.specs.declared.arguments.ReceiveCall.{ReceiveCall}
use Rattle.msgq_c.specs.declared.arguments.SendCall.{SendCall}
use Rattle.msgq_c.specs.declared.arguments.SetCall.{SetCall}

abbrev pub given : Bool → ℕ → Option ℕ
given is_given number = if is_given then Some number else None

abbrev pub get_of : GetCall → Call
get_of c = calls.Get (record {
  key = given c.has_key c.key;
  create = c.create;
  excl = c.excl;
  mode = c.mode;
  moment = c.moment;
})

abbrev pub send_of : SendCall → List ℕ → Call
send_of c body = calls.Send (record {
  id = c.id;
  mtype = c.mtype;
  body = body;
  nowait = c.nowait;
  moment = c.moment;
})

-- by which so many bytes are taken at most
abbrev pub receive_of : ReceiveCall → ℕ → Call
receive_of c size = calls.Receive (record {
  id = c.id;
  size = size;
  mtype = c.mtype;
  nowait = c.nowait;
  noerror = c.noerror;
  moment = c.moment;
})

abbrev pub set_of : SetCall → Call
set_of c = calls.Set (record {
  id = c.id;
  qbytes = c.qbytes;
  uid = given c.has_uid c.uid;
  gid = given c.has_gid c.gid;
  mode = given c.has_mode c.mode;
  moment = c.moment;
})
