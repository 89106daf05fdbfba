-- The texts of cells.
use Rattle.std.proofs.Common.{◌≡◌, ℕ, suc, false}
use Rattle.std.proofs.Common.{List, [], ◌∷◌, map, refl, sym, ◌∙◌, arith}
use Rattle.std.specs.Prelude.{Contains}
use Rattle.std.specs.Char.{IsScalar}
use Rattle.std.specs.List.{AllByRecursion}
use Rattle.std.proofs.lemmas.Bool.{ne_eqb}
use Rattle.vte_core.specs.Event.{Print}
use Rattle.vt100_forms.specs.Form.{Text}
use Rattle.vt100_cells.specs.Cell.{columns_of}
use Rattle.terminal_model.specs.FormText.{IsFormText}
use Rattle.terminal_model.specs.Apply.{input, inputs, apply}
use Rattle.vt100_core.specs.Grid.{GridView, row_of_cursor}
use Rattle.vt100_core.specs.Picture.{grid_size, Extras, term_of_grid}
use Rattle.vt100_core.specs.Text.{printed}
use Rattle.vt100_core.proofs.TextLemmas.{IsDrawn-here}
use Rattle.vt100_core.proofs.TextLemmas.{or-false}
use Rattle.vt100_core.proofs.InputLemmas.{spaced-is}
use Rattle.vt100_core.proofs.InputLemmas.{joined-is, input-dropped, input-joined, input-spaced}
use Rattle.vt100_core.proofs.InputTexts.{narrow-plain}
use Rattle.forms_read.specs.Events.{events_of}
use Rattle.forms_read.specs.Laws.{IsPrinted}
use Rattle.forms_read.proofs.SentTexts.{sent-printed}
use Rattle.screen_model.specs.State.{State}
use Rattle.screen_model.specs.Effect.{is_unhandled, effect}
use Rattle.screen_model.specs.Made.{played}
use Rattle.screen_model.specs.Shown.{extras_of}
use Rattle.screen_model.proofs.UnscrolledTexts.{printed-either}
use Rattle.screen_view_laws.specs.Plain.{terminal_of, size_shown, IsPlainGrid, IsPlainState}
use Rattle.screen_view_laws.specs.StateLaws.{Shows}
use Rattle.screen_view_laws.proofs.PlainStates.{drawable, shows-at, shows-same, shows-then}
use Rattle.screen_view_laws.proofs.SentTexts.{sound-printed}

-- ---- one character

shows-typed : (g : GridView) (x : Extras) (c : ℕ) → IsPlainGrid g → (c ≡ 0xFE0F → ⊥)
    → term_of_grid (printed g c x.attrs).grid x ≡ input (grid_size g) c (term_of_grid g x)
shows-typed g x c p plain =
    let z = grid_size g in
    let t = term_of_grid g x in
    let d = drawable g p in
    printed-either (λ h. term_of_grid h x ≡ input z c t) g c x.attrs (λ e. sym (input-dropped z c t e))
    (λ e h. spaced-is g x c d h (IsDrawn-here g c (columns_of c) e refl).fits ∙ sym (input-spaced z c t e h))
    (λ e k. joined-is g x c d ((IsDrawn-here g c (columns_of c) e refl).after k)
    (narrow-plain (row_of_cursor g) g.col c plain) ∙ sym (input-joined z c t e k))

-- a character that is drawn, and widens nothing
abbrev IsDrawnAsIs : ℕ → Type 0
IsDrawnAsIs c = IsScalar c × ((c ≡ 0xFE0F → ⊥) × (is_unhandled c ≡ false))

print-shows : (s : State) (c : ℕ) → IsPlainState s → IsDrawnAsIs c
    → Shows s (input (size_shown s) c (terminal_of s)) (effect (Print c) s).state
print-shows s c h d =
    let one = sound-printed s.shown c (extras_of s) h.1 d.0 in
    rw (d.1.1) (record {
      shows = shows-typed s.shown (extras_of s) c h.1 d.1.0;
      size = one.size;
      plain = (h.0, one.plain);
    })

-- ---- all of them

texts-show : (cs : List ℕ) (s : State) → IsPlainState s → AllByRecursion IsDrawnAsIs cs
    → Shows s (inputs (size_shown s) cs (terminal_of s)) (played (map Print cs) s)
texts-show [] s h d = shows-same s h
texts-show (c ∷ cs) s h d =
    let u = (effect (Print c) s).state in
    let one = print-shows s c h d.0 in
    let t = inputs (size_shown s) cs (input (size_shown s) c (terminal_of s)) in
    let w = inputs (size_shown u) cs (terminal_of u) in
    let v = played (map Print cs) u in
    shows-at s v v t w refl (sym (λ i. inputs (one.size i) cs (one.shows i)))
    (shows-then s u v (input (size_shown s) c (terminal_of s)) w one (texts-show cs u one.plain d.1))

unhandled-is : (c : ℕ) → IsPrinted c → (c ≡ 0xFFFD → ⊥) → is_unhandled c ≡ false
unhandled-is c h ne = rw (ne_eqb c 0xFFFD ne) ((or-false _ _ h.1).1)

text-drawn : (cs : List ℕ) → AllByRecursion IsPrinted cs → (Contains cs 0xFE0F → ⊥) → (Contains cs 0xFFFD → ⊥)
    → AllByRecursion IsDrawnAsIs cs
text-drawn [] h f r = tt
text-drawn (c ∷ cs) h f r = (
  (h.0.0, ((λ e. f (0, omega arith, e)), unhandled-is c h.0 (λ e. r (0, omega arith, e)))),
  text-drawn cs h.1 (λ q. f (suc q.0, (let l = q.1 in omega arith), q.2))
      (λ q. r (suc q.0, (let l = q.1 in omega arith), q.2)),
)

pub shows-Text : (s : State) (cs : List ℕ) → IsPlainState s → IsFormText cs
    → Shows s (apply (size_shown s) (Text cs) (terminal_of s)) (played (events_of (Text cs)) s)
unfolding apply
shows-Text s cs h t = texts-show cs s h (text-drawn cs (sent-printed cs t.sent) t.plain t.sent.known)
