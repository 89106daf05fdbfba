-- Bytes without events.
use Rattle.std.proofs.Common.{◌≡◌, ℕ, ◌+◌, ◌-◌, ◌==◌, ◌<◌, ◌≤◌, take, drop, get_or, Bool, true, false, not, ◌&&◌}
use Rattle.std.proofs.Common.{List, [], ◌∷◌, ◌++◌, ◌⊎◌, inl, inr, length, refl, sym, ◌∙◌, ap, subst, arith}
use Rattle.std.proofs.Common.{append_assoc, append-nil, length-append, length-drop}
use Rattle.std.proofs.lemmas.Bool.Decides.{nat_tests}
use Rattle.std.proofs.Math.Nat.{add_assoc, zero-add}
use Rattle.vte_core.specs.Event.{Event, Performs}
use Rattle.vte_core.specs.Bytes.{each, is_esc, is_control, is_header, is_data, is_swallowed, is_abort}
use Rattle.vte_core.specs.Bytes.{ends_header, ends_osc}
use Rattle.vte_core.specs.Pending.{Pending, InText, InEscape, InCsi, InOsc, InHook, InDevice, InSwallowed}
use Rattle.vte_core.specs.Pending.{events_of_byte, events_from, after_byte, after_bytes}
use Rattle.vte_core.specs.Phases.{ReadsHeader}
use Rattle.vte_core.specs.Store.{ReadsOsc}
use Rattle.vte_core.specs.Standing.{IsAt, state_is_text}
use Rattle.vte_core.specs.Stopping.{StopsAt, runs_on}
use Rattle.vte_core.specs.Reads.{BeginsWithEsc, ReadsQuietly, ReadsStep}
use Rattle.vte_core.specs.Reading.{KeepsTwo}
use Rattle.vte_core.specs.Runs.{is_one_step, IsStep}
use Rattle.vte_core.specs.declared.header.Header.{Header}
use Rattle.vte_core.specs.declared.parser.Parser.{Parser}
use Rattle.vte_core.specs.declared.parser.State.TheVariants.{Ground, Escape, Csi, OscString, DcsHeader}
use Rattle.vte_core.specs.declared.parser.State.TheVariants.{DcsPassthrough, SosPmApcString}
use Rattle.vte_core.specs.declared.parser.State.{State}
use Rattle.vte_core.proofs.Characters.{bool_cases}
use Rattle.vte_core.proofs.PhaseLemmas.{each-first}
use Rattle.vte_core.proofs.Machine.{events_from-append, after_bytes-append}
use Rattle.vte_core.proofs.ReadsLemmas.{quiet_by, reads_on, reads_quiet}
use Rattle.vte_core.proofs.Runs.{stop_steps, byte-at, piece_and_rest, read_more, nil_of_len}
use Rattle.std.proofs.lemmas.List.{drop-drop, take_more}
use lib.Seq.{take-add}

-- what is pending, by the parser's state
abbrev pub IsOf : State → Pending → Type 0
IsOf Ground q = (u : List ℕ) × (q ≡ InText u)
IsOf Escape q = (is : List ℕ) × (q ≡ InEscape is)
IsOf Csi q = (h : List ℕ) × (q ≡ InCsi h)
IsOf OscString q = (d : List ℕ) × (q ≡ InOsc d)
IsOf DcsHeader q = (h : List ℕ) × (q ≡ InHook h)
IsOf DcsPassthrough q = q ≡ InDevice
IsOf SosPmApcString q = q ≡ InSwallowed

pub by_state : (n : ℕ) (p : Parser n) (s : State) (q : Pending) → p.state ≡ s → IsAt n p q → IsOf s q
by_state n p s (InText u) e at = rw (sym e ∙ at.0) (u, refl)
by_state n p s (InEscape is) e at = rw (sym e ∙ at.0) (is, refl)
by_state n p s (InCsi h) e at = rw (sym e ∙ at.0) (h, refl)
by_state n p s (InOsc d) e at = rw (sym e ∙ at.0) (d, refl)
by_state n p s (InHook h) e at = rw (sym e ∙ at.0) (h, refl)
by_state n p s InDevice e at = rw (sym e ∙ at.0) refl
by_state n p s InSwallowed e at = rw (sym e ∙ at.0) refl

-- a byte that has no event and is kept
abbrev pub Keeps : ℕ → (List ℕ → Pending) → ℕ → Type 0
Keeps n f b = (h : List ℕ) → (events_of_byte n (f h) b ≡ []) × (after_byte (f h) b ≡ f (h ++ b ∷ []))

pub header-csi : (n b : ℕ) → is_header b ≡ true → Keeps n InCsi b
header-csi n b e h =
    let esc : is_esc b ≡ false = grind (arith, nat_tests) in
    let ends : ends_header b ≡ false = grind (arith, nat_tests) in
    let control : is_control b ≡ false = grind (arith, nat_tests) in
    (rw (control, esc, ends) refl, rw (esc, ends, e) refl)

pub header-hook : (n b : ℕ) → is_header b ≡ true → Keeps n InHook b
header-hook n b e h =
    let esc : is_esc b ≡ false = grind (arith, nat_tests) in
    let ends : ends_header b ≡ false = grind (arith, nat_tests) in
    (rw (esc, ends) refl, rw (esc, ends, e) refl)

data-osc : (n b : ℕ) → is_data b ≡ true → Keeps n InOsc b
data-osc n b e h =
    let esc : is_esc b ≡ false = grind (arith, nat_tests) in
    let ends : ends_osc b ≡ false = grind (arith, nat_tests) in
    let control : is_control b ≡ false = grind (arith, nat_tests) in
    (rw (esc, ends) refl, rw (control, esc, ends) refl)

-- some of them, one after another
pub all_kept : (n : ℕ) (f : List ℕ → Pending) (p : ℕ → Bool) (h xs : List ℕ) → ((b : ℕ) → p b ≡ true → Keeps n f b)
    → each p xs ≡ true
    → (events_from n (f h) xs ≡ []) × (after_bytes (f h) xs ≡ f (h ++ xs))
all_kept n f p h [] k e = (refl, ap f (sym (append-nil h)))
all_kept n f p h (b ∷ xs) k e =
    let g = each-first p b xs e in
    let one = k b g.0 h in
    let more = all_kept n f p (h ++ b ∷ []) xs k g.1 in
    let from : events_from n (after_byte (f h) b) xs ≡ [] = ap (λ (q : Pending). events_from n q xs) one.1 ∙ more.0 in
    (rw (one.0, from) refl, ap (λ (q : Pending). after_bytes q xs) one.1 ∙ (more.1 ∙ ap f (append_assoc h (b ∷ []) xs)))

-- what is swallowed
skip_on : (n : ℕ) (xs : List ℕ) → each is_swallowed xs ≡ true → (events_from n InSwallowed xs ≡ [])
    × (after_bytes InSwallowed xs ≡ InSwallowed)
skip_on n [] h = (refl, refl)
skip_on n (b ∷ xs) h =
    let g = each-first is_swallowed b xs h in
    let is : is_swallowed b ≡ true = g.0 in
    let esc : is_esc b ≡ false = grind (arith, nat_tests) in
    let abort : is_abort b ≡ false = grind (arith, nat_tests) in
    let more = skip_on n xs g.1 in
    (rw (esc, abort) more.0, rw (esc, abort) more.1)

-- where the parser reads a header, or the data of a command, or swallows bytes

module _ {n : ℕ} {p : Parser n} {bs : List ℕ} {k : ℕ} (within : k ≤ length bs) where
  pub header_quiet : (x : Header) → (p.state ≡ Csi) ⊎ (p.state ≡ DcsHeader) → each is_header (take k bs) ≡ true
      → ((h : List ℕ) → ReadsHeader p.header h → ReadsHeader x (h ++ take k bs))
      → ReadsQuietly n p bs k (record p { header = x })
  header_quiet x s all reads = quiet_by within (λ q at. elim s [
    | inl i ↦
        let (h, is) = by_state n p Csi q i at in
        let here = rw is at at in
        let m = all_kept n InCsi is_header h (take k bs) (header-csi n) all in
        rw is (m.0, rw m.1 (here.0, here.1, reads h here.2))
    | inr i ↦
        let (h, is) = by_state n p DcsHeader q i at in
        let here = rw is at at in
        let m = all_kept n InHook is_header h (take k bs) (header-hook n) all in
        rw is (m.0, rw m.1 (here.0, here.1, reads h here.2))
  ])

  pub osc_quiet : (x : List ℕ × List ℕ) → p.state ≡ OscString → each is_data (take k bs) ≡ true
      → ((d : List ℕ) → ReadsOsc n p.osc d → ReadsOsc n x (d ++ take k bs))
      → ReadsQuietly n p bs k (record p { osc = x })
  osc_quiet x s all reads = quiet_by within (λ q at.
      let (d, is) = by_state n p OscString q s at in
      let here = rw is at at in
      let m = all_kept n InOsc is_data d (take k bs) (data-osc n) all in
      rw is (m.0, rw m.1 (here.0, here.1, reads d here.2)))

  pub swallowed_quiet : p.state ≡ SosPmApcString → each is_swallowed (take k bs) ≡ true → ReadsQuietly n p bs k p
  swallowed_quiet s all = quiet_by within (λ q at.
      let is = by_state n p SosPmApcString q s at in
      let m = skip_on n (take k bs) all in
      rw is (m.0, rw m.1 (rw is at at)))

-- where the performer is asked

no_events : (xs ys : List Event) → xs ++ ys ≡ [] → (xs ≡ []) × (ys ≡ [])
no_events [] ys h = (refl, h)
no_events (x ∷ xs) ys h = cc

module _ {S : Type 0} (step : S → Event → S → Type 0) (terminated : S → Bool) (n : ℕ) where
  any_flag : (q : Pending) (a : Bool) (bs : List ℕ) (old : S) (k : ℕ) (new : S)
      → terminated old ≡ false → StopsAt step terminated n q true bs old k new
      → StopsAt step terminated n q a bs old k new
  any_flag q a [] old k new t h = h
  any_flag q true (b ∷ bs) old k new t h = h
  any_flag q false (b ∷ bs) old k new t h = rw t at h

  -- over bytes without events
  quiet_steps : (q : Pending) (asked : Bool) (bs rest : List ℕ) (old : S) (k : ℕ) (new : S)
      → events_from n q bs ≡ [] → terminated old ≡ false
      → StopsAt step terminated n (after_bytes q bs) true rest old k new
      → StopsAt step terminated n q asked (bs ++ rest) old (length bs + k) new
  quiet_steps q asked [] rest old k new e t h =
      rw (zero-add k) (any_flag q asked rest old k new t h)
  quiet_steps q asked (b ∷ bs) rest old k new e t h =
      let none = no_events (events_of_byte n q b) (events_from n (after_byte q b) bs) e in
      let quiet : (asked && terminated old) ≡ false =
      elim (bool_cases asked) [ inl a ↦ rw (a, t) refl | inr a ↦ rw a refl ] in
      let here : Performs step old (events_of_byte n q b) old = rw none.0 refl in
      rw quiet (
        old,
        length bs + k,
        omega arith,
        here,
        quiet_steps (after_byte q b) (not (runs_on q b (bs ++ rest))) bs rest old k new none.1 t h,
      )

  last_stops : (q : Pending) (bs rest : List ℕ) (old mid : S) (k : ℕ) (new : S)
      → (bs ≡ []) ⊎ (is_one_step q bs rest ≡ true) → terminated old ≡ false → Performs step old (events_from n q bs) mid
      → StopsAt step terminated n (after_bytes q bs) true rest mid k new
      → StopsAt step terminated n q true (bs ++ rest) old (length bs + k) new
  last_stops q [] rest old mid k new o t p h =
      rw (zero-add k, ← p) h
  last_stops q (b ∷ bs) rest old mid k new o t p h =
      elim o [ inl none ↦ cc | inr one ↦ stop_steps step terminated n q true (b ∷ bs) rest old mid k new one t p h ]

  -- over a step of the parser, at whose beginning the performer goes on
  pub step_stops : (q : Pending) (bs rest : List ℕ) (old mid : S) (k : ℕ) (new : S)
      → IsStep n q bs rest → terminated old ≡ false → Performs step old (events_from n q bs) mid
      → StopsAt step terminated n (after_bytes q bs) true rest mid k new
      → StopsAt step terminated n q true (bs ++ rest) old (length bs + k) new
  step_stops q bs rest old mid k new s t p h =
      let r = after_bytes q s.quiet in
      let gone = rw (s.parts, events_from-append n q s.quiet s.last, s.nothing) at p in
      let left = rw (s.parts, after_bytes-append q s.quiet s.last) at h in
      let whole = last_stops r s.last rest old mid k new s.one t gone left in
      rw (
        s.parts,
        append_assoc s.quiet s.last rest,
        length-append s.quiet s.last,
        add_assoc (length s.quiet) (length s.last) k,
      )
      (quiet_steps q true s.quiet (s.last ++ rest) old (length s.last + k) new s.nothing t whole)

-- a step after bytes without events
pub quiet-step : (n : ℕ) (q : Pending) (xs ys rest : List ℕ) → events_from n q xs ≡ []
    → IsStep n (after_bytes q xs) ys rest → IsStep n q (xs ++ ys) rest
quiet-step n q xs ys rest e s = record {
  quiet = xs ++ s.quiet;
  last = s.last;
  parts = ap (λ (zs : List ℕ). xs ++ zs) s.parts ∙ sym (append_assoc xs s.quiet s.last);
  nothing = events_from-append n q xs s.quiet ∙ rw (e, s.nothing) refl;
  one = elim s.one [
    | inl none ↦ inl none
    | inr one ↦ inr
        (ap (λ (r : Pending). is_one_step r s.last rest) (after_bytes-append q xs s.quiet) ∙ one)
  ];
}

pub one-step : (n : ℕ) (q : Pending) (bs rest : List ℕ) → is_one_step q bs rest ≡ true → IsStep n q bs rest
one-step n q bs rest h = record { quiet = []; last = bs; parts = refl; nothing = refl; one = inr h }

-- a byte of a sequence, or ESC, after such bytes
pub quiet-byte-step : (n : ℕ) (p : Parser n) (q : Pending) (bs : List ℕ) (k : ℕ) → k < length bs
    → events_from n q (take k bs) ≡ [] → state_is_text p.state ≡ false → IsAt n p (after_bytes q (take k bs))
    → IsStep n q (take (k + 1) bs) (drop (k + 1) bs)
quiet-byte-step n p q bs k lt e s at =
    let left : 0 < length (drop k bs) = omega (arith, length-drop k bs, lt) in
    let none : (state_is_text p.state && not (is_esc (get_or (drop k bs) 0 0))) ≡ false = rw s refl in
    let one = one-step n (after_bytes q (take k bs)) _ _
    (byte-at n p (drop k bs) (after_bytes q (take k bs)) left none at) in
    let all = quiet-step n q (take k bs) _ _ e one in
    subst (λ (ys : List ℕ). IsStep n q (take (k + 1) bs) ys) (drop-drop 1 k bs)
    (subst (λ (xs : List ℕ). IsStep n q xs (drop 1 (drop k bs))) (sym (take-add k 1 bs)) all)

-- `ESC [` and some of a header, after whole ground text

pub begun-text : (n : ℕ) (p : Parser n) (q : Pending) → p.state ≡ Ground → p.unfinished ≡ [] → IsAt n p q → q
    ≡ InText []
begun-text n p q s e at =
    let (u, is) = by_state n p Ground q s at in
    let here = rw is at at in
    rw is (ap InText (sym here.1 ∙ e))

first_two : (bs : List ℕ) (a b : ℕ) → 2 ≤ length bs → get_or bs 0 0 ≡ a → get_or bs 1 0 ≡ b
    → take 2 bs ≡ a ∷ b ∷ []
first_two [] a b h e f = absurd (omega (arith, h))
first_two (x ∷ []) a b h e f = absurd (omega (arith, h))
first_two (x ∷ y ∷ xs) a b h e f = let first : x ≡ a = e in let second : y ≡ b = f in rw (first, second) refl

-- some bytes that are kept, after those at the start that begin them
begun-kept : (n : ℕ) (q : Pending) (f : List ℕ → Pending) (p : ℕ → Bool) (bs prefix : List ℕ) (j k : ℕ)
    → ((b : ℕ) → p b ≡ true → Keeps n f b) → take j bs ≡ prefix → events_from n q prefix ≡ []
    → after_bytes q prefix ≡ f [] → each p (take k (take (length bs - j) (drop j bs))) ≡ true
    → (events_from n q (take (j + k) bs) ≡ [])
    × (after_bytes q (take (j + k) bs) ≡ f (take k (take (length bs - j) (drop j bs))))
begun-kept n q f p bs prefix j k keeps is quiet begun kept =
    rw (
      read_more bs j k,
      is,
      events_from-append n q prefix (take k (take (length bs - j) (drop j bs))),
      after_bytes-append q prefix (take k (take (length bs - j) (drop j bs))),
      quiet,
      begun,
    ) (all_kept n f p [] (take k (take (length bs - j) (drop j bs))) keeps kept)

pub begun-csi : (n : ℕ) (p : Parser n) (q : Pending) (bs : List ℕ) (k : ℕ) → 2 ≤ length bs → get_or bs 0 0 ≡ 0x1B
    → get_or bs 1 0 ≡ 0x5B → p.state ≡ Ground → (length p.unfinished == 0) ≡ true
    → each is_header (take k (take (length bs - 2) (drop 2 bs))) ≡ true → IsAt n p q
    → (events_from n q (take (2 + k) bs) ≡ [])
    × (after_bytes q (take (2 + k) bs) ≡ InCsi (take k (take (length bs - 2) (drop 2 bs))))
begun-csi n p q bs k some e f s none header at =
    rw (begun-text n p q s (nil_of_len p.unfinished none) at)
    (begun-kept n (InText []) InCsi is_header bs (0x1B ∷ 0x5B ∷ []) 2 k (header-csi n) (first_two bs _ _ some e f) refl
    refl header)

pub begun-osc : (n : ℕ) (bs : List ℕ) (k : ℕ) → 2 ≤ length bs → get_or bs 0 0 ≡ 0x1B → get_or bs 1 0 ≡ 0x5D
    → each is_data (take k (take (length bs - 2) (drop 2 bs))) ≡ true
    → (events_from n (InText []) (take (2 + k) bs) ≡ [])
    × (after_bytes (InText []) (take (2 + k) bs) ≡ InOsc (take k (take (length bs - 2) (drop 2 bs))))
begun-osc n bs k some e f all =
    begun-kept n (InText []) InOsc is_data bs (0x1B ∷ 0x5D ∷ []) 2 k (data-osc n) (first_two bs _ _ some e f) refl refl
    all

-- `[` and some of a header, or `]` and some of a command's data, after ESC alone

none_kept : (is : List ℕ) → take 2 is ≡ [] → is ≡ []
none_kept [] e = refl
none_kept (a ∷ is) e = cc

begun-escape : (n : ℕ) (p : Parser n) (q : Pending) → p.state ≡ Escape → p.intermediates.kept.items ≡ [] → IsAt n p q
    → (q ≡ InEscape []) × (p.unfinished ≡ [])
begun-escape n p q s e at =
    let (is, q_is) = by_state n p Escape q s at in
    let here = rw q_is at at in
    rw q_is (ap InEscape (none_kept is (sym here.2.kept ∙ e)), here.1)

pub escape-csi : (n : ℕ) (p : Parser n) (q : Pending) (bs : List ℕ) (k : ℕ) → 0 < length bs → get_or bs 0 0 ≡ 0x5B
    → p.state ≡ Escape → (length p.intermediates.kept.items == 0) ≡ true
    → each is_header (take k (take (length bs - 1) (drop 1 bs))) ≡ true → IsAt n p q
    → (events_from n q (take (1 + k) bs) ≡ [])
    × (after_bytes q (take (1 + k) bs) ≡ InCsi (take k (take (length bs - 1) (drop 1 bs)))) × (p.unfinished ≡ [])
escape-csi n p q bs k some e s none header at =
    let u = begun-escape n p q s (nil_of_len p.intermediates.kept.items none) at in
    let first : take 1 bs ≡ 0x5B ∷ [] = take_more bs 0 0 some ∙ ap (λ (c : ℕ). c ∷ []) e in
    let m = begun-kept n (InEscape []) InCsi is_header bs (0x5B ∷ []) 1 k (header-csi n) first refl refl header in
    rw u.0 (m.0, m.1, u.1)

pub escape-osc : (n : ℕ) (p : Parser n) (q : Pending) (bs : List ℕ) (k : ℕ) → 0 < length bs → get_or bs 0 0 ≡ 0x5D
    → p.state ≡ Escape → (length p.intermediates.kept.items == 0) ≡ true
    → each is_data (take k (take (length bs - 1) (drop 1 bs))) ≡ true → IsAt n p q
    → (events_from n q (take (1 + k) bs) ≡ [])
    × (after_bytes q (take (1 + k) bs) ≡ InOsc (take k (take (length bs - 1) (drop 1 bs)))) × (p.unfinished ≡ [])
escape-osc n p q bs k some e s none kept at =
    let u = begun-escape n p q s (nil_of_len p.intermediates.kept.items none) at in
    let first : take 1 bs ≡ 0x5D ∷ [] = take_more bs 0 0 some ∙ ap (λ (c : ℕ). c ∷ []) e in
    let m = begun-kept n (InEscape []) InOsc is_data bs (0x5D ∷ []) 1 k (data-osc n) first refl refl kept in
    rw u.0 (m.0, m.1, u.1)

-- ESC after ESC
pub escs-quiet : (n : ℕ) (is xs : List ℕ) → each is_esc xs ≡ true → 0 < length xs
    → (events_from n (InEscape is) xs ≡ []) × (after_bytes (InEscape is) xs ≡ InEscape [])
escs-quiet n is [] all some = absurd (omega (arith, some))
escs-quiet n is (b ∷ []) all some =
    let g = each-first is_esc b [] all in
    (rw g.0 refl, rw g.0 refl)
escs-quiet n is (b ∷ c ∷ xs) all some =
    let g = each-first is_esc b (c ∷ xs) all in
    let more = escs-quiet n [] (c ∷ xs) g.1 (omega arith) in
    (rw g.0 more.0, rw g.0 more.1)

-- ESC after whole ground text
pub esc-quiet : {n : ℕ} {p r : Parser n} (bs : List ℕ) → BeginsWithEsc bs → p.state ≡ Ground → p.unfinished ≡ []
    → r.state ≡ Escape → r.unfinished ≡ [] → KeepsTwo r.intermediates [] → ReadsQuietly n p bs 1 r
esc-quiet {n} {p} {r} bs begins ground whole escape none kept =
    let first : take 1 bs ≡ 0x1B ∷ [] = take_more bs 0 0 begins.some ∙ ap (λ (c : ℕ). c ∷ []) begins.esc in
    quiet_by (omega (arith, begins.some)) (λ q at. rw (begun-text n p q ground whole at, first)
    (refl, (escape, none, kept)))

-- bytes without events are a step
pub quiet-alone : {S : Type 0} {step : S → Event → S → Type 0} {n : ℕ} {p r : Parser n} {old : S} (bs : List ℕ) (k : ℕ)
    → 0 < k → ReadsQuietly n p bs k r → ReadsStep step n p old bs k r old
quiet-alone bs k some quiet = record {
  some = some;
  reads = reads_quiet bs k quiet;
  is_step = λ q at. record {
    quiet = take k bs;
    last = [];
    parts = sym (append-nil (take k bs));
    nothing = quiet.quiet q at;
    one = inl refl;
  };
}

-- and so are they with a step after them
pub quiet-and-step : {S : Type 0} {step : S → Event → S → Type 0} {n : ℕ} {p mid r : Parser n} {old new : S}
    (bs : List ℕ)
    (i k : ℕ) → ReadsQuietly n p bs i mid → ReadsStep step n mid old (take (length bs - i) (drop i bs)) k r new
    → ReadsStep step n p old bs (i + k) r new
quiet-and-step {S} {step} {n} {p} {mid} bs i k quiet after = record {
  some = omega (arith, after.some);
  reads = reads_on bs i k (reads_quiet bs i quiet) after.reads;
  is_step = λ q at.
      let rest : List ℕ = take (length bs - i) (drop i bs) in
      let parts = piece_and_rest bs i k after.reads.within in
      rw (read_more bs i k, parts.2) (quiet-step n q (take i bs) (take k rest) (drop k rest) (quiet.quiet q at)
      (after.is_step (after_bytes q (take i bs)) (quiet.state_after q at)));
}
