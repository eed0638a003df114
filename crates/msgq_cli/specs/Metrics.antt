-- What is told of the queues of a system in the text format of Prometheus. docs/SHELL.md, "Metrics".
use Rattle.std.specs.Prelude.{ℕ, ◌-◌, List, [], ◌∷◌, ◌++◌, length, codes}
use Rattle.std.specs.Fmt.{decimal}
use Rattle.queue_model.specs.Selection.{total_bytes}
use Rattle.queue_model.specs.State.{State}
use Rattle.queue_model.specs.declared.queue.Queue.{Queue}
use Rattle.msgq_cli.specs.Answers.{labelled_text, line_of}
use Rattle.msgq_cli.specs.declared.metrics.Metric.{Metric}
use Rattle.msgq_cli.specs.declared.metrics.Metric.TheVariants.{Messages, Bytes, Limit, Sent, Received, LastSend, LastReceive}

abbrev pub name_of : Metric → List ℕ
name_of Messages = codes "msgq_queue_messages"
name_of Bytes = codes "msgq_queue_bytes"
name_of Limit = codes "msgq_queue_limit_bytes"
name_of Sent = codes "msgq_queue_sent_total"
name_of Received = codes "msgq_queue_received_total"
name_of LastSend = codes "msgq_queue_last_send_timestamp_seconds"
name_of LastReceive = codes "msgq_queue_last_receive_timestamp_seconds"

abbrev pub help_of : Metric → List ℕ
help_of Messages = codes "Messages on the queue."
help_of Bytes = codes "Bytes of the messages on the queue."
help_of Limit = codes "As many bytes the messages on the queue may have together."
help_of Sent = codes "Messages sent to the queue since it was made."
help_of Received = codes "Messages received from the queue since it was made."
help_of LastSend = codes "When a message was last sent to the queue, 0 for never."
help_of LastReceive = codes "When a message was last received from the queue, 0 for never."

-- a counter only grows
abbrev pub kind_of : Metric → List ℕ
kind_of Messages = codes "gauge"
kind_of Bytes = codes "gauge"
kind_of Limit = codes "gauge"
kind_of Sent = codes "counter"
kind_of Received = codes "counter"
kind_of LastSend = codes "gauge"
kind_of LastReceive = codes "gauge"

-- serials are given out from 1 on, one a message that was sent; who was sent and is not there was received
abbrev pub value_of : Metric → Queue → ℕ
value_of Messages q = length q.messages
value_of Bytes q = total_bytes q.messages
value_of Limit q = q.qbytes
value_of Sent q = q.next_serial - 1
value_of Received q = q.next_serial - 1 - length q.messages
value_of LastSend q = q.stime
value_of LastReceive q = q.rtime

abbrev pub sample_text : Metric → Queue → List ℕ
sample_text m q = line_of (labelled_text (name_of m) q.id q.key ∷ decimal (value_of m q) ∷ [])

-- a line for each queue, in order of id
abbrev pub samples_text : Metric → List Queue → List ℕ
samples_text m [] = []
samples_text m (queue ∷ queues) = sample_text m queue ++ samples_text m queues

abbrev pub help_text : Metric → List ℕ
help_text m = line_of (codes "# HELP" ∷ name_of m ∷ help_of m ∷ [])

abbrev pub kind_text : Metric → List ℕ
kind_text m = line_of (codes "# TYPE" ∷ name_of m ∷ kind_of m ∷ [])

-- what it is, and its values
abbrev pub family_text : Metric → State → List ℕ
family_text m s = help_text m ++ kind_text m ++ samples_text m s.queues

-- one after the other
abbrev pub metrics_text : State → List ℕ
metrics_text s = family_text Messages s ++ family_text Bytes s ++ family_text Limit s ++ family_text Sent s
    ++ family_text Received s ++ family_text LastSend s ++ family_text LastReceive s
