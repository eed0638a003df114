-- What is told of a system that a file holds.
use Rattle.std.specs.Prelude.{ℕ, List, [], ◌∷◌, ◌++◌, length, codes}
use Rattle.std.specs.List.{sum_by}
use Rattle.std.specs.Fmt.{decimal}
use Rattle.queue_model.specs.Rules.{info_of, messages_of}
use Rattle.queue_model.specs.State.{State}
use Rattle.queue_model.specs.declared.queue.Queue.{Queue}
use Rattle.msgq_cli.specs.Answers.{info_text, line_of}
use Rattle.msgq_cli.specs.Metrics.{metrics_text}
use Rattle.msgq_cli.specs.declared.reports.Deed.{Deed}
use Rattle.msgq_cli.specs.declared.reports.Deed.TheVariants.{Migrated, Copied, Grown, Salvaged}
use Rattle.msgq_cli.specs.declared.reports.Report.{Report}
use Rattle.msgq_cli.specs.declared.reports.Report.TheVariants.{Counts, Queues, Metrics}

-- how many queues a system has, and messages on them
abbrev pub ok_text : State → List ℕ
ok_text s = line_of (codes "ok" ∷ decimal (length s.queues) ∷ decimal (sum_by messages_of s.queues) ∷ [])

-- what was done to make a new file
abbrev pub word_of : Deed → List ℕ
word_of Migrated = codes "migrated"
word_of Copied = codes "copied"
word_of Grown = codes "grown"
word_of Salvaged = codes "salvaged"

-- and how many queues have come to it, and messages on them
abbrev pub deed_text : Deed → State → List ℕ
deed_text deed s =
    line_of (word_of deed ∷ decimal (length s.queues) ∷ decimal (sum_by messages_of s.queues) ∷ [])

-- the first and the last of pages that can't be read
abbrev pub unread_text : ℕ → ℕ → List ℕ
unread_text first last = line_of (codes "unread" ∷ decimal first ∷ decimal last ∷ [])

-- the state of each queue, in order of id
abbrev pub infos_text : List Queue → List ℕ
infos_text [] = []
infos_text (queue ∷ queues) = info_text (info_of queue) ++ infos_text queues

-- the id of the next queue
abbrev pub next_text : ℕ → List ℕ
next_text id = line_of (codes "next" ∷ decimal id ∷ [])

-- the state of each queue, and the next id
abbrev pub system_text : State → List ℕ
system_text s = infos_text s.queues ++ next_text s.next_id

-- what a report tells of a system
abbrev pub report_text : Report → State → List ℕ
report_text Counts s = ok_text s
report_text Queues s = system_text s
report_text Metrics s = metrics_text s
