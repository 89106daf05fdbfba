-- Each event keeps what is true of a terminal that shows no kept row.
use Rattle.std.proofs.Common.{◌≡◌, ◌∙◌, ℕ, ◌-◌, ◌==◌, Bool, true, false, cond, List, [], ◌∷◌, Option, Some}
use Rattle.std.proofs.Common.{None, sym, nat_eq}
use Rattle.std.specs.Prelude.{unwrap_or}
use Rattle.std.specs.Int.{is_in_range}
use Rattle.std.specs.Option.{option_map}
use Rattle.std.specs.Char.{IsScalar}
use Rattle.std.proofs.lemmas.Bool.{cond_both, eq-eqb, false≢true}
use Rattle.vt100_forms.specs.declared.modes.CursorStyle.{CursorStyle}
use Rattle.vt100_forms.specs.declared.modes.MouseProtocolMode.{MouseProtocolMode}
use Rattle.vt100_forms.specs.declared.modes.MouseProtocolEncoding.{MouseProtocolEncoding}
use Rattle.vt100_forms.specs.declared.modes.MouseProtocolMode.TheVariants as mouse
use Rattle.vt100_forms.specs.declared.modes.MouseProtocolEncoding.TheVariants as encoding
use Rattle.vte_core.specs.Event.{Event, Print, Execute, Csi, Esc}
use Rattle.vt100_core.proofs.TextLemmas.{or-false}
use Rattle.screen_model.specs.Lookup.{lookup}
use Rattle.screen_model.specs.State.{State}
use Rattle.screen_model.specs.Call.{Call}
use Rattle.screen_model.specs.Sgr.{sgr_read}
use Rattle.screen_model.specs.PrivateModes.{is_mouse, is_encoding, mouse_set, encoding_set, mouse_reset, encoding_reset}
use Rattle.screen_model.specs.PrivateModes.{set_rows, reset_rows, row_of, row_state, partly_on, modes_from}
use Rattle.screen_model.specs.Step.{Stepped, Partly, quietly, with_style, typed}
use Rattle.screen_model.specs.Effect.{Effect, effect_or, is_unhandled, control_rows, escape_rows, count, later}
use Rattle.screen_model.specs.Effect.{number_or}
use Rattle.screen_model.specs.Effect.{display_rows, line_rows, style_rows, row_partly, display_erased, line_erased}
use Rattle.screen_model.specs.Effect.{styled}
use Rattle.screen_model.specs.Effect.{given, window_effect, plain_rows, other_rows, private_rows, row_effect}
use Rattle.screen_model.specs.Effect.{plain_effect, csi_call, csi_effect, effect, escape_effect, print_effect, calling}
use Rattle.screen_model.specs.Effect.{steps}
use Rattle.screen_model.proofs.RowTraits.{IsKnown}
use Rattle.screen_model.proofs.UnscrolledStates.{Bounds, IsUnscrolledState, well-with, Keeps, KeepsStepped}
use Rattle.screen_model.proofs.UnscrolledStates.{well-typed, well-repeated}
use Rattle.screen_model.proofs.UnscrolledStates.{well-moved_left, well-moved_right, well-tabbed, well-at_column}
use Rattle.screen_model.proofs.UnscrolledStates.{well-at_row}
use Rattle.screen_model.proofs.UnscrolledStates.{well-at_place, well-moved_up, well-moved_down, well-line_above}
use Rattle.screen_model.proofs.UnscrolledStates.{well-line_below}
use Rattle.screen_model.proofs.UnscrolledStates.{well-line_fed, well-line_fed_back, well-in_region, well-saved}
use Rattle.screen_model.proofs.UnscrolledStates.{well-restored}
use Rattle.screen_model.proofs.UnscrolledStates.{well-erased_below, well-erased_above, well-erased_all}
use Rattle.screen_model.proofs.UnscrolledStates.{well-erased_kept}
use Rattle.screen_model.proofs.UnscrolledStates.{well-erased_right, well-erased_left, well-erased_row}
use Rattle.screen_model.proofs.UnscrolledStates.{well-cells_erased}
use Rattle.screen_model.proofs.UnscrolledStates.{well-cells_added, well-cells_taken, well-lines_added, well-lines_taken}
use Rattle.screen_model.proofs.UnscrolledStates.{well-region_up, well-region_down, well-origin, well-alternate_shown}
use Rattle.screen_model.proofs.UnscrolledStates.{well-main_shown, well-alternate_entered, well-alternate_left}
use Rattle.screen_model.proofs.UnscrolledStates.{well-made_anew}
use Rattle.screen_model.proofs.Tables.{Each, ◌&◌, Where, looked-up}
use Rattle.screen_model.proofs.ProperLemmas.{sgr_read-proper}
use Rattle.screen_model.proofs.ScalarEvents.{IsReported}

-- ---- tables

abbrev KeepsEffect : (State → Effect) → Type 0
KeepsEffect f = Keeps (λ s. (f s).state)

effect-or : (o : Option (State → Effect)) (k : Call) → Where KeepsEffect o → KeepsEffect (effect_or o k)
effect-or None k h b s w = w
effect-or (Some f) k h b s w = h b s w

-- ---- what isn't of a sheet

attrs-well : (gs : List (List ℕ)) → Keeps (λ s. record s { attrs = (sgr_read gs s.attrs).attrs })
attrs-well gs b s w =
    well-with b s _ _ _ _ w w.shown w.clean
    (record {
      attrs = sgr_read-proper gs s.attrs w.drawn.attrs;
      saved_attrs = w.drawn.saved_attrs;
      last =
          w.drawn.last;
    })

-- ---- private modes

state-if : (b : Bounds) (p : Bool) (s t : State) → IsUnscrolledState b s → IsUnscrolledState b t
    → IsUnscrolledState b (cond p s t)
state-if b p s t v w = cond_both p s t (λ x. IsUnscrolledState b x) (λ _. v) (λ _. w)

mouse-reset : (m : MouseProtocolMode) → Keeps (mouse_reset m)
mouse-reset m b s w = state-if b (is_mouse s.modes.mouse m) (mouse_set mouse.None s) s w w

encoding-reset : (m : MouseProtocolEncoding) → Keeps (encoding_reset m)
encoding-reset m b s w = state-if b (is_encoding s.modes.encoding m) (encoding_set encoding.Default s) s w w

-- what changes no sheet and no attributes
same : (b : Bounds) (s : State) → IsUnscrolledState b s → IsUnscrolledState b s
same b s w = w

sets-keep : Each Keeps set_rows
sets-keep =
    same & well-origin true & same & same & well-alternate_shown & same & same & same & same & same
    & well-alternate_entered & same & same & tt

resets-keep : Each Keeps reset_rows
resets-keep =
    same & well-origin false & mouse-reset _ & same & well-main_shown & mouse-reset _ & mouse-reset _ & mouse-reset _
    & encoding-reset _ & encoding-reset _ & well-alternate_left & same & same & tt

row-looked-up : (rows : List (ℕ × (State → State))) → Each Keeps rows → (g : List ℕ) → Where Keeps (row_of rows g)
row-looked-up rows h [] = tt
row-looked-up rows h (n ∷ []) = looked-up Keeps n rows h
row-looked-up rows h (n ∷ m ∷ ns) = tt

row-well : (o : Option (State → State)) → Where Keeps o → Keeps (row_state o)
row-well None h b s w = w
row-well (Some f) h b s w = h b s w

modes-from : (rows : List (ℕ × (State → State))) → Each Keeps rows → (gs : List (List ℕ)) (b : Bounds) (x : Partly)
    → IsUnscrolledState b x.state → IsUnscrolledState b (modes_from rows x gs).state
modes-from rows h [] b x w = w
modes-from rows h (g ∷ gs) b x w =
    modes-from rows h gs b (partly_on (row_of rows g) x)
    (row-well (row_of rows g) (row-looked-up rows h g) b x.state w)

-- ---- sequences with a number that chooses

row-partly : (o : Option (State → Stepped)) → Where KeepsStepped o → Keeps (λ s. (row_partly o s).state)
row-partly None h b s w = w
row-partly (Some f) h b s w = h b s w

displays-keep : Each KeepsStepped display_rows
displays-keep = well-erased_below & well-erased_above & well-erased_all & well-erased_kept & tt

lines-keep : Each KeepsStepped line_rows
lines-keep = well-erased_right & well-erased_left & well-erased_row & tt

display-well : (n : ℕ) → Keeps (λ s. (display_erased n s).state)
display-well n = row-partly (lookup n display_rows) (looked-up KeepsStepped n display_rows displays-keep)

line-well : (n : ℕ) → Keeps (λ s. (line_erased n s).state)
line-well n = row-partly (lookup n line_rows) (looked-up KeepsStepped n line_rows lines-keep)

style-row : (o : Option CursorStyle) → Keeps (λ s. (row_partly (option_map (λ x t. quietly
    (with_style x t)) o) s).state)
style-row None b s w = w
style-row (Some x) b s w = w

styled-well : (n : ℕ) → Keeps (λ s. (styled n s).state)
styled-well n = style-row (lookup n style_rows)

-- ---- control sequences

abbrev KeepsPlain : (List (List ℕ) → State → Effect) → Type 0
KeepsPlain f = (gs : List (List ℕ)) → KeepsEffect (f gs)

abbrev KeepsOther : (List (List ℕ) → Call → State → Effect) → Type 0
KeepsOther f = (gs : List (List ℕ)) (k : Call) → KeepsEffect (f gs k)

effect-if : (b : Bounds) (p : Bool) (x y : Effect) → IsUnscrolledState b x.state → IsUnscrolledState b y.state
    → IsUnscrolledState b (cond p x y).state
effect-if b p x y v w = cond_both p x y (λ (z : Effect). IsUnscrolledState b z.state) (λ _. v) (λ _. w)

window-well : KeepsOther window_effect
window-well gs k b s w = effect-if b (nat_eq (unwrap_or (given gs) 0) 8) _ (calling (k ∷ []) s) w w

plains-keep : Each KeepsPlain plain_rows
plains-keep =
    (λ gs. well-cells_added (count gs)) & (λ gs. well-moved_up (count gs)) & (λ gs. well-moved_down (count gs))
    & (λ gs. well-moved_right (count gs)) & (λ gs. well-moved_left (count gs)) & (λ gs. well-line_below (count gs))
    & (λ gs. well-line_above (count gs)) & (λ gs. well-at_column (count gs - 1)) & (λ gs. well-at_column (count gs - 1))
    & (λ gs. well-at_row (count gs - 1)) & (λ gs. well-at_place (count gs - 1) (count (later gs) - 1))
    & (λ gs. well-at_place (count gs - 1) (count (later gs) - 1)) & (λ gs. well-lines_added (count gs))
    & (λ gs. well-lines_taken (count gs)) & (λ gs. well-cells_taken (count gs)) & (λ gs. well-region_up (count gs))
    & (λ gs. well-region_down (count gs)) & (λ gs. well-cells_erased (count gs)) & (λ gs. well-repeated (count gs))
    & (λ gs b s w. well-in_region (count gs - 1) (number_or s.shown.height (later gs) - 1) b s w) & tt

others-keep : Each KeepsOther other_rows
others-keep =
    (λ gs k. display-well (number_or 0 gs)) & (λ gs k. line-well (number_or 0 gs)) & (λ gs k. attrs-well gs) &
    window-well
    & tt

privates-keep : Each KeepsOther private_rows
privates-keep =
    (λ gs k. display-well (number_or 0 gs)) & (λ gs k. line-well (number_or 0 gs))
    & (λ gs k b s w. modes-from set_rows sets-keep gs b (record { state = s; reports = []; unhandled = 0 }) w)
    & (λ gs k b s w. modes-from reset_rows resets-keep gs b (record { state = s; reports = []; unhandled = 0 }) w) & tt

row-effect : (o : Option (List (List ℕ) → Call → State → Effect)) → Where KeepsOther o → (gs : List (List ℕ)) (k : Call)
    → KeepsEffect (row_effect o gs k)
row-effect None h gs k b s w = w
row-effect (Some f) h gs k b s w = h gs k b s w

plain-effect : (o : Option (List (List ℕ) → State → Effect)) → Where KeepsPlain o → (gs : List (List ℕ)) (final : ℕ)
    → KeepsEffect (plain_effect o gs final)
plain-effect None h gs final b s w =
    row-effect (lookup final other_rows) (looked-up KeepsOther final other_rows others-keep) gs (csi_call [] gs final)
    b s w
plain-effect (Some f) h gs final b s w = h gs b s w

csi-well : (gs : List (List ℕ)) (ms : List ℕ) (final : ℕ) → KeepsEffect (csi_effect gs ms final)
csi-well gs [] final b s w =
    plain-effect (lookup final plain_rows) (looked-up KeepsPlain final plain_rows plains-keep) gs final b s w
csi-well gs (m ∷ ms) final b s w =
    effect-if b (nat_eq m 0x20) _ _
    (effect-if b (nat_eq final 0x71) _ _ (styled-well (number_or 0 gs) b s w) w)
    (effect-if b (nat_eq m 0x3F) _ _
    (row-effect (lookup final private_rows) (looked-up KeepsOther final private_rows privates-keep) gs
    (csi_call (m ∷ ms) gs final) b s w) w)

-- ---- all events

controls-keep : Each KeepsEffect control_rows
controls-keep =
    same & well-moved_left 1 & well-tabbed & well-line_fed & well-line_fed & well-line_fed & well-at_column 0 & same &
    same
    & tt

escapes-keep : Each KeepsEffect escape_rows
escapes-keep = well-saved & well-restored & same & same & well-line_fed_back & well-made_anew & same & tt

escape-well : (is : List ℕ) (final : ℕ) → KeepsEffect (escape_effect is final)
escape-well [] final b s w =
    effect-or (lookup final escape_rows) _ (looked-up KeepsEffect final escape_rows escapes-keep) b s w
escape-well (i ∷ is) final b s w = w

handled-known : (c : ℕ) → is_unhandled c ≡ false → IsKnown c
handled-known c e = λ f. false≢true (sym (or-false (c == 0xFFFD) (is_in_range 0x80 0x9F c) e).0 ∙ eq-eqb c 0xFFFD f)

print-well : (c : ℕ) → IsScalar c → KeepsEffect (print_effect c)
print-well c h b s w =
    cond_both (is_unhandled c) _ (steps (typed c s)) (λ (x : Effect). IsUnscrolledState b x.state) (λ _. w)
    (λ e. well-typed c h (handled-known c e) b s w)

pub effect-well : (e : Event) → IsReported e → KeepsEffect (effect e)
effect-well (Print c) h b s w = print-well c h b s w
effect-well (Execute byte) h b s w =
    effect-or (lookup byte control_rows) _ (looked-up KeepsEffect byte control_rows controls-keep) b s w
effect-well (Csi gs ms ignore final) h b s w = csi-well gs ms final b s w
effect-well (Esc ms ignore final) h b s w = escape-well ms final b s w
effect-well e h b s w = w
