-- Which events have a call that says that an update was opened.
use Rattle.std.proofs.Common.{◌≡◌, ℕ, ◌+◌, ◌%◌, ◌==◌, ◌↔◌, Bool, true, false, ◌&&◌, List, [], ◌∷◌, ◌++◌, Option}
use Rattle.std.proofs.Common.{None, Some, IfSome, nat_eq, nat_lt, bytes_eq, if◌then◌else◌, map, unwrap_or, length, drop}
use Rattle.std.proofs.Common.{find, codes, suc, refl, ap, sym, ◌∙◌, subst, inl, inr}
use Rattle.std.specs.List.{list_any, flat_map, range_with_len, starts_with}
use Rattle.std.specs.Option.{option_to_list}
use Rattle.std.proofs.lemmas.Bool.{cases_Bool, eqb-true, and_parts}
use Rattle.std.proofs.Math.Bool.{or-true}
use Rattle.std.proofs.lemmas.List.Folds.{list_any-append}
use Rattle.vte_core.specs.Event.{Event, Execute, Osc, Csi, Esc}
use Rattle.vte_types.specs.Call.{Call, set_private_mode, reset_color, set_mouse_cursor_icon}
use Rattle.vte_types.specs.CursorIcon.{name_of, all_icons}
use Rattle.vte_types.specs.Lookup.{lookup}
use Rattle.vte_types.specs.Mode.{private_mode_of, private_mode_rows}
use Rattle.vte_types.specs.declared.charset.CharsetIndex.{CharsetIndex}
use Rattle.vte_types.specs.declared.mode.PrivateMode.TheVariants.{Unknown}
use Rattle.vte_types.specs.declared.rgb.Rgb.{Rgb}
use Rattle.vte_types.specs.declared.scp.ScpCharPath.{ScpCharPath}
use Rattle.vte_types.specs.declared.scp.ScpUpdateMode.{ScpUpdateMode}
use Rattle.vte.specs.Sgr.{first}
use Rattle.vte.specs.Escape.{calls_at, execute_rows, unmarked_escape_rows, hash_escape_rows, charset_index}
use Rattle.vte.specs.Escape.{charset_rows, charset_calls, escape_calls}
use Rattle.vte.specs.Csi.{number_or, identify_calls, counted_rows, repeat_calls, uncounted_rows, placing_rows}
use Rattle.vte.specs.Csi.{uncounted_calls, counted_calls, unmarked_calls, question_rows, other_keys_rows}
use Rattle.vte.specs.Csi.{scp_calls, style_rows, question_dollar_rows, calls_by, marked_rows, csi_calls}
use Rattle.vte.specs.Csi.{opens_group, opening_groups, placing_calls}
use Rattle.vte.specs.Osc.{named, end_text, title_calls, color_of_text, set_or_ask, color_calls, byte_number, pair_calls}
use Rattle.vte.specs.Osc.{pairs_calls, palette_calls, link_calls, two_digits, dynamic_calls, icon_calls, shape_rows}
use Rattle.vte.specs.Osc.{shape_calls, cursor_calls, clipboard_calls, index_resets, reset_calls, osc_rows, osc_calls}
use Rattle.vte.specs.Table.{calls_of, last_after, opens, is_opening}
use Rattle.vte.specs.Performed.{calls_of_all}
use Rattle.vte.specs.Laws.{IsStart}

-- no call says that an update was opened
abbrev Quiet : List Call → Type 0
Quiet cs = list_any is_opening cs ≡ false

quiet_if : (b : Bool) (xs ys : List Call) → Quiet xs → Quiet ys → Quiet (if b then xs else ys)
quiet_if true xs ys h k = h
quiet_if false xs ys h k = k

quiet-append : (a b : List Call) → Quiet a → Quiet b → Quiet (a ++ b)
quiet-append a b h k = list_any-append is_opening a b ∙ rw h k

quiet_map : {X : Type 0} (f : X → Call) (xs : List X) → ((x : X) → is_opening (f x) ≡ false) → Quiet (map f xs)
quiet_map f [] h = refl
quiet_map f (x ∷ xs) h = rw (h x) (quiet_map f xs h)

quiet_flat_map : {X : Type 0} (f : X → List Call) (xs : List X) → ((x : X) → Quiet (f x)) → Quiet (flat_map f xs)
quiet_flat_map f [] h = refl
quiet_flat_map f (x ∷ xs) h = quiet-append (f x) (flat_map f xs) (h x) (quiet_flat_map f xs h)

-- P is true of each row's key and value
abbrev Rows : {K X : Type 0} → (K → X → Type 0) → List (K × X) → Type 0
Rows P [] = Unit {0}
Rows P (row ∷ rows) = P row.0 row.1 × Rows P rows

-- P is true of the row that a key finds
found : {X : Type 0} (P : ℕ → X → Type 0) (key : ℕ) (rows : List (ℕ × X)) → Rows P rows
    → IfSome (lookup key rows) (P key)
found P key [] h = tt
found {X} P key (row ∷ rows) h = elim (cases_Bool (nat_eq key row.0)) [
  | inl e ↦ rw e (subst (λ (k : ℕ). P k row.1) (sym (eqb-true key row.0 e)) h.0)
  | inr e ↦ rw e (found P key rows h.1)
]

or_else : {X : Type 0} (P : X → Type 0) (o : Option X) (other : X) → IfSome o P → P other → P (unwrap_or o other)
or_else P None other h k = k
or_else P (Some x) other h k = h

found_or : {X : Type 0} (P : ℕ → X → Type 0) (key : ℕ) (rows : List (ℕ × X)) (other : X) → Rows P rows → P key other
    → P key (unwrap_or (lookup key rows) other)
found_or P key rows other h k = or_else (P key) (lookup key rows) other (found P key rows h) k

named_or : {X : Type 0} (P : X → Type 0) (name : List ℕ) (rows : List (List ℕ × X)) (other : X)
    → Rows (λ k x. P x) rows → P other → P (unwrap_or (named name rows) other)
named_or P name [] other h k = k
named_or P name (row ∷ rows) other h k = elim (cases_Bool (bytes_eq name row.0)) [
  | inl e ↦ rw e h.0
  | inr e ↦ rw e (named_or P name rows other h.1 k)
]

quiet_at : (key : ℕ) (rows : List (ℕ × List Call)) → Rows (λ k cs. Quiet cs) rows → Quiet (calls_at key rows)
quiet_at key rows h = found_or (λ k cs. Quiet cs) key rows [] h refl

quiet_by : (f : ℕ) (rows : List (ℕ × (List (List ℕ) → List Call))) (gs : List (List ℕ))
    → Rows (λ k c. Quiet (c gs)) rows → Quiet (calls_by f rows gs)
quiet_by f rows gs h = found_or (λ k c. Quiet (c gs)) f rows (λ xs. []) h refl

-- controls and escape sequences

charset_quiet : (o : Option CharsetIndex) (b : ℕ) → Quiet (charset_calls o b)
charset_quiet None b = refl
charset_quiet (Some g) b = quiet_at b (charset_rows g) search

escape_quiet : (ms : List ℕ) (b : ℕ) → Quiet (escape_calls ms b)
escape_quiet [] b = quiet_at b unmarked_escape_rows search
escape_quiet (x ∷ []) b = quiet_if (nat_eq x 35) (calls_at b hash_escape_rows) (charset_calls (charset_index x) b)
    (quiet_at b hash_escape_rows search) (charset_quiet (charset_index x) b)
escape_quiet (x ∷ y ∷ ms) b = refl

-- control sequences without intermediates

repeat_quiet : (last : Option ℕ) (n : ℕ) → Quiet (repeat_calls last n)
repeat_quiet (Some x) (suc n) = repeat_quiet (Some x) n
repeat_quiet last n = refl

placing_quiet : (o : Option (List (List ℕ) → Call)) (gs : List (List ℕ)) → IfSome o (λ c. is_opening (c gs) ≡ false)
    → Quiet (placing_calls o gs)
placing_quiet None gs h = refl
placing_quiet (Some c) gs h = rw h refl

uncounted_quiet : (o : Option (Option ℕ → List (List ℕ) → List Call)) (last : Option ℕ) (gs : List (List ℕ)) (f : ℕ)
    → IfSome o (λ c. Quiet (c last gs)) → Quiet (uncounted_calls o last gs f)
uncounted_quiet None last gs f h = placing_quiet (lookup f placing_rows) gs
    (found (λ k c. is_opening (c gs) ≡ false) f placing_rows search)
uncounted_quiet (Some c) last gs f h = h

counted_quiet : (o : Option (ℕ → Call)) (last : Option ℕ) (gs : List (List ℕ)) (f : ℕ)
    → IfSome o (λ c. is_opening (c (number_or 1 gs)) ≡ false) → Quiet (counted_calls o last gs f)
counted_quiet None last gs f h = uncounted_quiet (lookup f uncounted_rows) last gs f
    (found (λ k c. Quiet (c last gs)) f uncounted_rows (search (quiet_at, quiet_map, repeat_quiet)))
counted_quiet (Some c) last gs f h = rw h refl

unmarked_quiet : (last : Option ℕ) (gs : List (List ℕ)) (f : ℕ) → Quiet (unmarked_calls last gs f)
unmarked_quiet last gs f = counted_quiet (lookup f counted_rows) last gs f
    (found (λ k c. is_opening (c (number_or 1 gs)) ≡ false) f counted_rows search)

-- with intermediates

identify_quiet : (gs : List (List ℕ)) (ms : List ℕ) → Quiet (identify_calls gs ms)
identify_quiet gs ms = quiet_if (nat_eq (number_or 0 gs) 0) _ _ refl refl

scp_quiet : (p : Option ScpCharPath) (u : Option ScpUpdateMode) → Quiet (scp_calls p u)
scp_quiet (Some p) (Some u) = refl
scp_quiet p u = refl

other_keys_quiet : (n : ℕ) → Quiet (calls_at n other_keys_rows)
other_keys_quiet n = quiet_at n other_keys_rows search

style_quiet : (n : ℕ) → Quiet (calls_at n style_rows)
style_quiet n = quiet_at n style_rows search

not_so : (cs : List Call) → true ≡ false → Quiet cs
not_so cs h = absurd (let no : true ≡ false = h in cc)

-- ? and another final than h
question_quiet : (f : ℕ) (gs : List (List ℕ)) → nat_eq f 104 ≡ false → Quiet (calls_by f question_rows gs)
question_quiet f gs = found_or (λ k c. nat_eq k 104 ≡ false
    → Quiet (c gs)) f question_rows (λ xs. []) (search (not_so, quiet_map, quiet_if)) (λ e. refl)

-- another intermediate than ?
marked_quiet : (x f : ℕ) (gs : List (List ℕ)) → nat_eq x 63 ≡ false
    → Quiet (calls_by f (unwrap_or (lookup x marked_rows) []) gs)
marked_quiet x f gs = found_or (λ k rows. nat_eq k 63 ≡ false
    → Quiet (calls_by f rows gs)) x marked_rows []
    (search (not_so, quiet_by, quiet_if, other_keys_quiet, scp_quiet, style_quiet)) (λ e. refl)

-- ? h

mode_quiet : (n : ℕ) → nat_eq n 2026 ≡ false → is_opening (set_private_mode (private_mode_of n)) ≡ false
mode_quiet n = found_or (λ k m. nat_eq k 2026 ≡ false
    → is_opening (set_private_mode m) ≡ false) n private_mode_rows (Unknown n) (search) (λ e. refl)

mode_opens : (n : ℕ) → is_opening (set_private_mode (private_mode_of n)) ≡ nat_eq n 2026
mode_opens n = elim (cases_Bool (nat_eq n 2026)) [
  | inl e ↦ subst (λ (k : ℕ). is_opening (set_private_mode (private_mode_of k)) ≡ nat_eq k 2026)
      (sym (eqb-true n 2026 e)) refl
  | inr e ↦ mode_quiet n e ∙ sym e
]

modes_open : (gs : List (List ℕ)) → list_any is_opening (map (λ g. set_private_mode (private_mode_of (first g))) gs)
    ≡ list_any opens_group gs
modes_open [] = refl
modes_open (g ∷ gs) = rw (mode_opens (first g), modes_open gs) refl

-- operating system commands

title_quiet : (ps : List (List ℕ)) → Quiet (title_calls ps)
title_quiet [] = refl
title_quiet (p ∷ ps) = refl

set_or_ask_quiet : (c : Option Rgb) (prefix : List ℕ) (i : ℕ) (end p : List ℕ) → Quiet (set_or_ask c prefix i end p)
set_or_ask_quiet (Some c) prefix i end p = refl
set_or_ask_quiet None prefix i end p = quiet_if (bytes_eq p (codes "?")) _ _ refl refl

pair_quiet : (i : Option ℕ) (p end : List ℕ) → Quiet (pair_calls i p end)
pair_quiet None p end = refl
pair_quiet (Some i) p end = set_or_ask_quiet (color_of_text p) _ i end p

pairs_quiet : (ps : List (List ℕ)) (end : List ℕ) → Quiet (pairs_calls ps end)
pairs_quiet (i ∷ p ∷ ps) end = quiet-append (pair_calls (byte_number i) p end) (pairs_calls ps end)
    (pair_quiet (byte_number i) p end) (pairs_quiet ps end)
pairs_quiet ps end = refl

palette_quiet : (ps : List (List ℕ)) (end : List ℕ) → Quiet (palette_calls ps end)
palette_quiet ps end = quiet_if (length ps % 2 == 0) _ _ (pairs_quiet ps end) refl

link_quiet : (ps : List (List ℕ)) → Quiet (link_calls ps)
link_quiet (p ∷ u ∷ us) = refl
link_quiet ps = refl

dynamic_quiet : (n : ℕ) (ps : List (List ℕ)) (end : List ℕ) → Quiet (dynamic_calls n ps end)
dynamic_quiet n [] end = refl
dynamic_quiet n (p ∷ ps) end =
    quiet_if (nat_lt 12 n) _ _ refl
    (quiet-append (color_calls (two_digits n) (246 + n) end p) (dynamic_calls (n + 1) ps end)
    (set_or_ask_quiet (color_of_text p) (two_digits n) (246 + n) end p) (dynamic_quiet (n + 1) ps end))

icon_quiet : (ps : List (List ℕ)) → Quiet (icon_calls ps)
icon_quiet (p ∷ []) = quiet_map set_mouse_cursor_icon
    (option_to_list (find (λ icon. bytes_eq (name_of icon) p) all_icons)) (λ i. refl)
icon_quiet ps = refl

shape_quiet : (bs : List ℕ) → Quiet (shape_calls bs)
shape_quiet [] = refl
shape_quiet (b ∷ bs) = quiet_at b shape_rows search

cursor_quiet : (ps : List (List ℕ)) → Quiet (cursor_calls ps)
cursor_quiet [] = refl
cursor_quiet (p ∷ ps) = quiet_if (starts_with nat_eq p (codes "CursorShape=")) _ _ (shape_quiet (drop 12 p)) refl

clipboard_quiet : (ps : List (List ℕ)) (end : List ℕ) → Quiet (clipboard_calls ps end)
clipboard_quiet (s ∷ d ∷ ps) end = quiet_if (bytes_eq d (codes "?")) _ _ refl refl
clipboard_quiet ps end = refl

reset_quiet : (ps : List (List ℕ)) → Quiet (reset_calls ps)
reset_quiet ((b ∷ bs) ∷ ps) = quiet_flat_map index_resets ((b ∷ bs)
    ∷ ps) (λ p. quiet_map reset_color (option_to_list (byte_number p)) (λ i. refl))
reset_quiet _ = quiet_map reset_color (range_with_len 0 256) (λ i. refl)

osc_quiet : (ps : List (List ℕ)) (bell : Bool) → Quiet (osc_calls ps bell)
osc_quiet [] bell = refl
osc_quiet (p ∷ ps) bell = named_or (λ c. Quiet (c ps (end_text bell))) p osc_rows (λ qs e. [])
    (search (
      title_quiet,
      palette_quiet,
      link_quiet,
      dynamic_quiet,
      icon_quiet,
      cursor_quiet,
      clipboard_quiet,
      reset_quiet,
    )) refl

-- all events

other_sequence : (last : Option ℕ) (gs : List (List ℕ)) (x f : ℕ) → (nat_eq x 63 && nat_eq f 104) ≡ false
    → Quiet (calls_by f (unwrap_or (lookup x marked_rows) []) gs)
other_sequence last gs x f h = elim (cases_Bool (nat_eq x 63)) [
  | inl e ↦ subst (λ (y : ℕ). Quiet (calls_by f (unwrap_or (lookup y marked_rows) []) gs)) (sym (eqb-true x 63 e))
      (question_quiet f gs (rw e at h))
  | inr e ↦ marked_quiet x f gs e
]

sequence_opens : (last : Option ℕ) (gs : List (List ℕ)) (ms : List ℕ) (f : ℕ)
    → list_any is_opening (csi_calls last gs ms f) ≡ list_any opens_group (opening_groups gs ms f)
sequence_opens last gs [] f = quiet_if (nat_eq f 99) _ _ (identify_quiet gs []) (unmarked_quiet last gs f)
sequence_opens last gs (x ∷ []) f = elim (cases_Bool (nat_eq x 63 && nat_eq f 104)) [
  | inl e ↦
      let both = and_parts (nat_eq x 63) (nat_eq f 104) e in
      subst (λ (y : ℕ). list_any is_opening (csi_calls last gs (y ∷ []) f)
      ≡ list_any opens_group (opening_groups gs (y ∷ []) f)) (sym (eqb-true x 63 both.0))
      (subst (λ (g : ℕ). list_any is_opening (csi_calls last gs (63 ∷ []) g)
      ≡ list_any opens_group (opening_groups gs (63 ∷ []) g)) (sym (eqb-true f 104 both.1)) (modes_open gs))
  | inr e ↦ rw e (quiet_if (nat_eq f 99) _ _ (identify_quiet gs (x ∷ [])) (other_sequence last gs x f e))
]
sequence_opens last gs (x ∷ y ∷ []) f = quiet_if (nat_eq f 99) _ _ (identify_quiet gs (x ∷ y ∷ []))
    (quiet_if (nat_eq x 63 && nat_eq y 36) _ _ (quiet_by f question_dollar_rows gs search) refl)
sequence_opens last gs (x ∷ y ∷ z ∷ ms) f = quiet_if (nat_eq f 99) _ _ (identify_quiet gs (x ∷ y ∷ z ∷ ms)) refl

pub opens_as_called : (last : Option ℕ) (e : Event) → list_any is_opening (calls_of last e) ≡ opens e
opens_as_called last (Execute b) = quiet_at b execute_rows search
opens_as_called last (Csi gs ms false f) = sequence_opens last gs ms f
opens_as_called last (Esc ms ignore b) = escape_quiet ms b
opens_as_called last (Osc ps bell) = osc_quiet ps bell
opens_as_called last e = refl

pub opens_as_all_called : (last : Option ℕ) (es : List Event)
    → list_any is_opening (calls_of_all last es) ≡ list_any opens es
opens_as_all_called last [] = refl
opens_as_all_called last (e ∷ es) = list_any-append is_opening (calls_of last e) (calls_of_all (last_after last e) es)
    ∙ rw (opens_as_called last e, opens_as_all_called (last_after last e) es) refl

-- the shape of what opens

record HasStart (gs : List (List ℕ)) : Type 0 where
  before : List (List ℕ)
  more : List ℕ
  after : List (List ℕ)
  is : gs ≡ before ++ (2026 ∷ more) ∷ after

start_at : (g : List ℕ) (gs : List (List ℕ)) → opens_group g ≡ true → HasStart (g ∷ gs)
start_at [] gs h = absurd (let no : false ≡ true = h in cc)
start_at (n ∷ ns) gs h = record { before = []; more = ns; after = gs; is = ap (λ k. (k ∷ ns) ∷ gs) (eqb-true n 2026 h) }

has_start : (gs : List (List ℕ)) → list_any opens_group gs ≡ true → HasStart gs
has_start [] h = absurd (let no : false ≡ true = h in cc)
has_start (g ∷ gs) h = elim (cases_Bool (opens_group g)) [
  | inl e ↦ start_at g gs e
  | inr e ↦
      let later = has_start gs (rw e at h) in
      record { before = g ∷ later.before; more = later.more; after = later.after; is = ap (λ xs. g ∷ xs) later.is }
]

never_so : (e : Event) → false ≡ true → IsStart e
never_so e h = absurd (let no : false ≡ true = h in cc)

question_start : (gs : List (List ℕ)) (x f : ℕ) → list_any opens_group (opening_groups gs (x ∷ []) f) ≡ true
    → IsStart (Csi gs (x ∷ []) false f)
question_start gs x f h = elim (cases_Bool (nat_eq x 63 && nat_eq f 104)) [
  | inl e ↦
      let both = and_parts (nat_eq x 63) (nat_eq f 104) e in
      let s = has_start gs (rw e at h) in
      let xs : x ≡ 63 = eqb-true x 63 both.0 in
      let fs : f ≡ 104 = eqb-true f 104 both.1 in
      let is : Csi gs (x ∷ []) false f ≡ Csi (s.before ++ (2026 ∷ s.more) ∷ s.after) (63 ∷ []) false 104 =
      ap (λ hs. Csi hs (x ∷ []) false f) s.is ∙ rw (xs, fs) refl in
      record { before = s.before; more = s.more; after = s.after; is = is }
  | inr e ↦ never_so (Csi gs (x ∷ []) false f) (rw e at h)
]

starts : (e : Event) → opens e ≡ true → IsStart e
starts (Csi gs ms true f) h = never_so (Csi gs ms true f) h
starts (Csi gs (x ∷ []) false f) h = question_start gs x f h
starts e h = never_so e h

start_opens : (e : Event) → IsStart e → opens e ≡ true
start_opens e s = rw (s.is) (list_any-append opens_group s.before ((2026 ∷ s.more) ∷ s.after)
    ∙ or-true (list_any opens_group s.before))

pub opens_by_starts : (e : Event) → (opens e ≡ true) ↔ IsStart e
opens_by_starts e = (starts e, start_opens e)
