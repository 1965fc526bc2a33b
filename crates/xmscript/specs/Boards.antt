-- What is printed of the boards.
use Rattle.std.specs.Prelude.{ℕ, List, ◌++◌, codes}
use Rattle.std.specs.List.{flat_map}
use Rattle.board.specs.Areas.{Area}
use Rattle.vector.specs.Reading.{tables}
use Rattle.tables.specs.declared.Tables.{Tables}
use Rattle.machine.specs.declared.event.Event.{Event}
use Rattle.machine.specs.Runs.{Line, lines, after}
use Rattle.machine.specs.Step.{boot}
use Rattle.zero_boards.specs.Layouts.{zeroed}
use Rattle.script.specs.Lines.{spaced}
use Rattle.xmscript.specs.declared.Wanted.{Wanted}
use Rattle.xmscript.specs.Words.{areas_of}
use Rattle.xmscript.specs.Lines.{ended}
use Rattle.xmscript.specs.Areas.{area_lines}

-- the numbers of an answer
abbrev pub answer_line : Line → List ℕ
answer_line l = ended (spaced l.reply)

-- a line for each event, in order
abbrev pub answer_lines : List Line → List ℕ
answer_lines ls = flat_map answer_line ls

-- what a vector's machine answers to events, from the boot on these areas on
abbrev pub told : List ℕ → List Area → List Event → List Line
told vector areas events = lines (tables vector) (boot (tables vector) areas) events

-- A board's heading, its answers to the events from the boot on, and the areas of the first `shown` partitions at the end.
abbrev pub board_text : List ℕ → Tables → List Area → List Event → ℕ → List ℕ
board_text heading t areas events shown =
    ended heading ++ answer_lines (lines t (boot t areas) events) ++ area_lines (after t (boot t areas) events).areas shown

-- both boards, each from areas of zeros on
abbrev pub boards_text : Tables → List Event → Wanted → List ℕ
boards_text t events wanted =
    board_text (codes "fenced") t (zeroed t) events (areas_of wanted t)
    ++ board_text (codes "paged") t (zeroed t) events (areas_of wanted t)
