-- A run goes on by one event.
use Rattle.std.proofs.Common.{◌≡◌, ℕ, ◌+◌, ◌<◌, ◌≤◌, List, [], ◌∷◌, ◌++◌, length, get_or, take, drop, set, sym, ap, ◌∙◌, ap₂, arith, Result}
use Rattle.board.specs.Areas.{Area}
use Rattle.std.proofs.lemmas.List.{drop_more, drop_all, drop-set-lt, take_all, take_more_set, map_push, append_assoc, append-nil}
use Rattle.tables.specs.declared.Tables.{Tables}
use Rattle.machine.specs.declared.event.Exchange.{Exchange}
use Rattle.machine.specs.declared.answer.Answer.{Answer}
use Rattle.machine.specs.declared.answer.Refusal.{Refusal}
use Rattle.machine.specs.declared.answer.Reply.{Reply}
use Rattle.machine.specs.Answers.{reply_of}
use Rattle.machine.specs.State.{State}
use Rattle.machine.specs.Step.{step, boot}
use Rattle.machine.specs.Runs.{Line, line, line_of, lines_of, events_of, after, lines}
use Rattle.kernel.specs.World.{World, Moved, gives, stepped, booted, ended}

-- From the world z with the history h, i events have brought it to the world w, their answers standing in g.
-- What is left of the history gives what the whole history gives.
pub record Underway (z : World) (h : List Exchange) (w : World) (i : ℕ) (g : List Exchange) : Type 0 where
  pub tables : w.tables ≡ z.tables
  pub state : after z.tables w.state (events_of (drop i g)) ≡ after z.tables z.state (events_of h)
  pub told : lines_of (take i g) ++ lines z.tables w.state (events_of (drop i g)) ≡ lines z.tables z.state (events_of h)

abbrev answered_by : Exchange → Result Answer Refusal → Exchange
answered_by x r = record { event = x.event; answer = r }

pub onward : (z : World) (h : List Exchange) (w v : World) (i : ℕ) (g : List Exchange) (r : Result Answer Refusal) (d : Exchange) →
    i < length g → gives v (reply_of r) ≡ stepped (get_or g i d).event w → Underway z h w i g →
    Underway z h v (i + 1) (set g i (answered_by (get_or g i d) r))
unfolding after lines
onward z h w v i g r d b e u =
    let k = z.tables in
    let x = get_or g i d in
    let y = answered_by x r in
    let s : v.state ≡ (step k w.state x.event).state =
    ap (λ (m : Moved). m.result.state) e ∙ ap (λ (k : Tables). (step k w.state x.event).state) u.tables in
    let a : reply_of r ≡ (step k w.state x.event).reply =
    ap (λ (m : Moved). m.result.reply) e ∙ ap (λ (k : Tables). (step k w.state x.event).reply) u.tables in
    let c = drop_more g i d b in
    let n : i < i + 1 = omega arith in
    let f : drop (i + 1) (set g i y) ≡ drop (i + 1) g = drop-set-lt (i + 1) g i y n in
    record {
      tables = ap (λ (m : Moved). m.tables) e ∙ u.tables;
      state =
          ap₂ (λ (q : State) (l : List Exchange). after k q (events_of l)) s f
          ∙ (ap (λ (l : List Exchange). after k w.state (events_of l)) (sym c) ∙ u.state);
      told =
          ap₂ (λ (p l : List Exchange). lines_of p ++ lines k v.state (events_of l)) (take_more_set g i y b) f
          ∙ (ap (λ (p : List Line). p ++ lines k v.state (events_of (drop (i + 1) g))) (map_push line_of (take i g) y)
          ∙ (append_assoc (lines_of (take i g)) (line_of y ∷ []) (lines k v.state (events_of (drop (i + 1) g)))
          ∙ (ap₂ (λ (p : Reply) (q : State). lines_of (take i g) ++ (line x.event p ∷ lines k q (events_of (drop (i + 1) g)))) a s
          ∙ (ap (λ (l : List Exchange). lines_of (take i g) ++ lines k w.state (events_of l)) (sym c) ∙ u.told))));
    }

pub over : (k : Tables) (ms : List Area) (z : World) (h : List Exchange) (w : World) (i : ℕ) (g : List Exchange) →
    z ≡ booted k ms → length g ≤ i → Underway z h w i g →
    record { ends : w ≡ ended k ms (events_of h); told : lines_of g ≡ lines k (boot k ms) (events_of h) }
unfolding after lines
over k ms z h w i g e b u =
    let c = drop_all i g b in
    let s : w.state ≡ after z.tables z.state (events_of h) =
    ap (λ (l : List Exchange). after z.tables w.state (events_of l)) (sym c) ∙ u.state in
    record {
      ends =
          ap₂ (λ (k : Tables) (s : State). record { tables = k; state = s }) u.tables s
          ∙ ap (λ (z : World). record { tables = z.tables; state = after z.tables z.state (events_of h) }) e;
      told =
          sym (append-nil (lines_of g))
          ∙ (ap (λ (p : List Exchange). lines_of p ++ []) (sym (take_all i g b))
          ∙ (ap (λ (l : List Exchange). lines_of (take i g) ++ lines z.tables w.state (events_of l)) (sym c)
          ∙ (u.told ∙ ap (λ (z : World). lines z.tables z.state (events_of h)) e)));
    }
