-- Both boards' texts, one after the other.
use Rattle.std.proofs.Common.{◌≡◌, ℕ, List, Option, refl, ap, ◌∙◌, subst}
use Rattle.board.specs.Areas.{Area}
use Rattle.std.specs.Prelude.{codes}
use Rattle.std.specs.Io.KnownBytes.{Appends}
use Rattle.tables.specs.declared.Tables.{Tables}
use Rattle.machine.specs.declared.event.Event.{Event}
use Rattle.machine.specs.Runs.{Line, lines, after}
use Rattle.machine.specs.Step.{boot}
use Rattle.zero_boards.specs.Layouts.{zeroed}
use Rattle.xmscript.specs.declared.Wanted.{Wanted}
use Rattle.xmscript.specs.Words.{areas_of}
use Rattle.xmscript.specs.Lines.{ended}
use Rattle.xmscript.specs.Areas.{area_lines}
use Rattle.xmscript.specs.Boards.{answer_lines, board_text, boards_text}
use Rattle.xmscript.proofs.Appending.{appends-then}

-- a board's text is its heading, its answers and its areas
pub board-printed : (u v w x : Option (List ℕ)) (heading : List ℕ) (t : Tables) (ms : List Area) (es : List Event) (n : ℕ) (ls : List Line) (gs : List Area) →
    ls ≡ lines t (boot t ms) es → gs ≡ (after t (boot t ms) es).areas →
    Appends u v (ended heading) → Appends v w (answer_lines ls) → Appends w x (area_lines gs n) → Appends u x (board_text heading t ms es n)
board-printed u v w x heading t ms es n ls gs told reached a b c =
    appends-then u w x _ _
    (appends-then u v w _ _ a (subst (λ (l : List Line). Appends v w (answer_lines l)) told b))
    (subst (λ (m : List Area). Appends w x (area_lines m n)) reached c)

module _ (u v w : Option (List ℕ)) (t : Tables) (es : List Event) (wanted : Wanted) (n : ℕ) (shown : n ≡ areas_of wanted t) where
  -- the board's tables are these, its areas zeros, and so are the events
  text-is : (heading : List ℕ) (k : Tables) (ms : List Area) (fs : List Event) → k ≡ t → ms ≡ zeroed t → fs ≡ es →
      board_text heading k ms fs n ≡ board_text heading t (zeroed t) es (areas_of wanted t)
  text-is heading k ms fs o p q =
      ap (λ (x : Tables). board_text heading x ms fs n) o
      ∙ ap (λ (x : List Area). board_text heading t x fs n) p
      ∙ ap (λ (x : List Event). board_text heading t (zeroed t) x n) q
      ∙ ap (board_text heading t (zeroed t) es) shown

  pub boards-printed : (j k : Tables) (a b : List Area) (fs : List Event) → j ≡ t → k ≡ t → a ≡ zeroed t → b ≡ zeroed t → fs ≡ es →
      Appends u v (board_text (codes "fenced") j a es n) → Appends v w (board_text (codes "paged") k b fs n) → Appends u w (boards_text t es wanted)
  boards-printed j k a b fs l m p q r x y =
      appends-then u v w _ _
      (subst (Appends u v) (text-is (codes "fenced") j a es l p refl) x)
      (subst (Appends v w) (text-is (codes "paged") k b fs m q r) y)
