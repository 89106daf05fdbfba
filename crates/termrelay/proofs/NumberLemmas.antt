-- The numbers of moments, by which clients share frames.
use Rattle.std.proofs.Common.{◌≡◌, ◌∙◌, ℕ, ◌+◌, ◌<◌, ◌≤◌, ◌==◌, true, false, min, length, Option, Some, None}
use Rattle.std.proofs.Common.{if◌then◌else◌, inl, inr, refl, sym, ap, subst, arith}
use Rattle.std.specs.Prelude.{nat_lt}
use Rattle.std.specs.Option.{option_map, IfSome}
use Rattle.std.proofs.lemmas.Bool.{cases_eq, eq-eqb, ne_eqb}
use Rattle.slab.specs.Slab.{Slab, get, Updates}
use Rattle.terminal_model.specs.Term.{Size, Shown, IsShown}
use Rattle.vt100_core.specs.Picture.{grid_size}
use Rattle.screen_model.specs.Call.{ScreenView}
use Rattle.screen_model.specs.Shown.{shown_state}
use Rattle.vt100.specs.Copies.{copy_of}
use Rattle.vt100.specs.WriterLaws.{IsUnscrolled}
use Rattle.vt100.proofs.CopyLemmas.{copies-same}
use Rattle.vt100.proofs.ShownLemmas.{shown-is}
use Rattle.termrelay.specs.Frame.{is_unsure, frame_text, IsShortFrame}
use Rattle.termrelay.specs.Answers.{due, same_shown, is_frame, unless_too_long, longest_frame}
use Rattle.termrelay.specs.ClientRecord.{BaseView, FrameView, RecordView, IsBaseOf, IsFrameOf, is_unsure_screen}
use Rattle.termrelay.specs.ClientRecord.{moment_of, shown_at_last}
use Rattle.termrelay.specs.Frames.{FramesView, most_moments, IsLatestOf, IsNumbered, EachLast, AgreeOn, AreNumbered}
use Rattle.termrelay.specs.Frames.{KeepsNumbers}
use Rattle.termrelay.specs.Due.{IsDueFrame, TakesNumber}
use Rattle.termrelay.specs.declared.answer.Answer.{Answer}
use Rattle.termrelay.specs.declared.answer.Answer.TheVariants.{Unchanged}
use Rattle.termrelay.proofs.ShownLemmas.{one-same}
use Rattle.termrelay.proofs.SameLemmas.{same-one}

-- ---- more moments

from-same : (s t : ℕ → Shown) (m : ℕ) (from : Option ℕ) → AgreeOn m s t → IfSome from (λ n. n < m)
    → option_map t from ≡ option_map s from
from-same s t m None agree known = refl
from-same s t m (Some n) agree known = λ i. Some (agree n known i)

known-more : (m n : ℕ) (from : Option ℕ) → m ≤ n → IfSome from (λ k. k < m) → IfSome from (λ k. k < n)
known-more m n None more known = tt
known-more m n (Some k) more known = let low : k < m = known in omega arith

-- a frame stays numbered if more moments are
pub numbered-more : (s t : ℕ → Shown) (m n : ℕ) (z : Size) (f : FrameView) → m ≤ n → AgreeOn m s t
    → IsNumbered s m z f → IsNumbered t n z f
numbered-more s t m n z f more agree is =
    let at : s f.base.moment ≡ t f.base.moment = sym (agree f.base.moment is.moment) in
    let from : option_map s f.from ≡ option_map t f.from = sym (from-same s t m f.from agree is.known) in
    record {
      known = known-more m n f.from more is.known;
      moment = omega (arith, is.moment);
      shown = is.shown ∙ at;
      answer = is.answer ∙ (λ i. due z (at i) (from i));
      text = is.text ∙ (λ i. frame_text z (from i) (at i));
    }

pub last-more : (s t : ℕ → Shown) (m n : ℕ) (z : Size) (last : Option FrameView) → m ≤ n → AgreeOn m s t
    → IfSome last (IsNumbered s m z) → IfSome last (IsNumbered t n z)
last-more s t m n z None more agree is = tt
last-more s t m n z (Some f) more agree is = numbered-more s t m n z f more agree is

record-more : (s t : ℕ → Shown) (m n : ℕ) (z : Size) (r : Option RecordView) → m ≤ n → AgreeOn m s t
    → IfSome r (λ r. IfSome r.last (IsNumbered s m z)) → IfSome r (λ r. IfSome r.last (IsNumbered t n z))
record-more s t m n z None more agree is = tt
record-more s t m n z (Some r) more agree is = last-more s t m n z r.last more agree is

pub each-more : (s t : ℕ → Shown) (m n : ℕ) (z : Size) (clients : Slab RecordView) → m ≤ n → AgreeOn m s t
    → EachLast clients (IsNumbered s m z) → EachLast clients (IsNumbered t n z)
each-more s t m n z clients more agree is key = record-more s t m n z (get clients key) more agree (is key)

-- ---- other clients

-- another client is at the key
pub each-updated : (s t : Slab RecordView) (key : ℕ) (slot : Option RecordView) (P : FrameView → Type 0)
    → Updates s t key slot → IfSome slot (λ r. IfSome r.last P) → EachLast s P → EachLast t P
each-updated s t key slot P u has each other = elim (cases_eq other key) [
  | inl same ↦ rw (same, u.changed) has
  | inr ne ↦ rw (u.others other ne) (each other)
]

-- ---- what was shown

-- what was shown at the last frame, by the number of its moment
pub last-shown : (s : ℕ → Shown) (m : ℕ) (z : Size) (last : Option FrameView) → IfSome last (IsNumbered s m z)
    → option_map s (moment_of last) ≡ shown_at_last last
last-shown s m z None is = refl
last-shown s m z (Some f) is = λ i. Some (sym is.shown i)

pub last-known : (s : ℕ → Shown) (m n : ℕ) (z : Size) (last : Option FrameView) → m ≤ n
    → IfSome last (IsNumbered s m z) → IfSome (moment_of last) (λ k. k < n)
last-known s m n z None more is = tt
last-known s m n z (Some f) more is = omega (arith, is.moment)

-- ---- what is due is known by the latest frame

-- it leads on from the moment of the client's last frame
pub latest-due : (s : ℕ → Shown) (m : ℕ) (now : ScreenView) (last : Option FrameView) (f : FrameView)
    → IsLatestOf now m f → IsNumbered s m (grid_size now.state.shown) f
    → IfSome last (IsNumbered s m (grid_size now.state.shown)) → moment_of last ≡ f.from → IsDueFrame now last f
latest-due s m now last f l is each from =
    let z = grid_size now.state.shown in
    let shown : s f.base.moment ≡ shown_state now.state = sym is.shown ∙ l.shown in
    let base : option_map s f.from ≡ shown_at_last last =
    ap (λ o. option_map s o) (sym from) ∙ last-shown s m z last each in
    record {
      frame = l.frame;
      shown = l.shown;
      answer = is.answer ∙ (λ i. due z (shown i) (base i));
      text = is.text ∙ (λ i. frame_text z (base i) (shown i));
    }

-- the same is shown, and it is sure
same-unchanged : (z : Size) (base now : Shown) → base ≡ now → is_unsure z base ≡ false
    → Unchanged ≡ due z now (Some base)
same-unchanged z base now same sure =
    let sure_now : is_unsure z now ≡ false = ap (is_unsure z) (sym same) ∙ sure in
    let alike : same_shown z base now ≡ true = ap (λ b. same_shown z b now) same ∙ one-same z now in
    rw (sure_now, sure, alike)

-- both are of one moment
pub moment-unchanged : (s : ℕ → Shown) (m : ℕ) (now : ScreenView) (g f : FrameView) → IsLatestOf now m f
    → IsNumbered s m (grid_size now.state.shown) f → IsNumbered s m (grid_size now.state.shown) g
    → IsBaseOf now g.base.screen → g.base.moment ≡ f.base.moment → is_unsure_screen g.base.screen ≡ false
    → Unchanged ≡ due (grid_size now.state.shown) (shown_state now.state) (shown_at_last (Some g))
moment-unchanged s m now g f l is last base one sure =
    let same : shown_state g.base.screen.state ≡ shown_state now.state =
    last.shown ∙ ap s one ∙ sym is.shown ∙ l.shown in
    let sure_here : is_unsure (grid_size now.state.shown) (shown_state g.base.screen.state) ≡ false =
    ap (λ z. is_unsure z (shown_state g.base.screen.state)) (sym base.size) ∙ sure in
    same-unchanged (grid_size now.state.shown) (shown_state g.base.screen.state) (shown_state now.state) same sure_here

-- ---- no frame is due

-- if no frame is due, the same is shown
alike-shown : (z : Size) (base now : Shown) → is_frame (due z now (Some base)) ≡ false → same_shown z base now ≡ true
alike-shown z base now none = grind arith

pub unchanged-shown : (now : ScreenView) (f : FrameView) → IsUnscrolled now.state → IsBaseOf now f.base.screen
    → is_frame (due (grid_size now.state.shown) (shown_state now.state) (shown_at_last (Some f))) ≡ false
    → shown_state f.base.screen.state ≡ shown_state now.state
unchanged-shown now f u base none =
    let z = grid_size now.state.shown in
    let old = shown_state f.base.screen.state in
    let new = shown_state now.state in
    let from : IsShown z old = rw base.size at (shown-is f.base.screen.state base.unscrolled) in
    same-one z old new from (shown-is now.state u) (alike-shown z old new none)

pub none-capped : (z : Size) (now : Shown) (base : Option Shown) (answer : Answer) → answer ≡ due z now base
    → is_frame answer ≡ false → answer ≡ unless_too_long z now base (due z now base)
none-capped z now base answer is none = rw (← is, none)

-- ---- a new frame

-- what was shown at each moment, with one more
abbrev with_moment : (ℕ → Shown) → ℕ → Shown → ℕ → Shown
with_moment s n x k = if k == n then x else s k

with-last : (s : ℕ → Shown) (n : ℕ) (x : Shown) → with_moment s n x n ≡ x
with-last s n x = rw (eq-eqb n n refl)

with-others : (s : ℕ → Shown) (n : ℕ) (x : Shown) → AgreeOn n s (with_moment s n x)
with-others s n x k below = rw (ne_eqb k n (λ e. omega (arith, e)))

-- the screen of a new frame's base
pub record IsBaseNow (now : ScreenView) (base : BaseView) : Type 0 where
  pub fits : IsBaseOf now base.screen
  pub shown : shown_state base.screen.state ≡ shown_state now.state

pub base-now : (now : ScreenView) (v w : FramesView) (latest : Option FrameView) (base : BaseView)
    → IsUnscrolled now.state → v.latest ≡ latest → IfSome latest (IsLatestOf now v.moments)
    → TakesNumber now v base w → IsBaseNow now base
base-now now v w None base u is l takes =
    let copy = copies-same now.state u in
    let parts = rw is at takes in
    let has : base ≡ record { moment = v.moments; screen = copy_of now } = parts.0 in
    rw has (record {
      fits = record { unscrolled = copy.unscrolled; size = copy.same.size };
      shown = copy.same.shown;
    })
base-now now v w (Some f) base u is l takes =
    let parts = rw is at takes in
    let has : base ≡ f.base = parts.0 in
    rw has (record { fits = l.frame.base; shown = l.shown })

-- Its moment has a number. What was numbered stays so.
pub record IsCounted (s : ℕ → Shown) (z : Size) (now : Shown) (v w : FramesView) (base : BaseView) : Type 0 where
  pub shown_then : ℕ → Shown
  pub agree : AgreeOn v.moments s shown_then
  pub more : v.moments ≤ w.moments
  pub latest : IfSome w.latest (IsNumbered shown_then w.moments z)
  pub moment : base.moment < w.moments
  pub shown : shown_then base.moment ≡ now

counted-next : (n most : ℕ) → min (n + 1) most < most → min (n + 1) most ≡ n + 1
counted-next n most low = omega arith

pub base-counted : (s : ℕ → Shown) (now : ScreenView) (v w : FramesView) (latest last : Option FrameView)
    (base : BaseView) → v.latest ≡ latest → IfSome latest (IsLatestOf now v.moments)
    → AreNumbered s (grid_size now.state.shown) v last → w.moments < most_moments → TakesNumber now v base w
    → IsCounted s (grid_size now.state.shown) (shown_state now.state) v w base
base-counted s now v w None last base is l are low takes =
    let x = shown_state now.state in
    let parts = rw is at takes in
    let has : base ≡ record { moment = v.moments; screen = copy_of now } = parts.0 in
    let after : w ≡ record { latest = None; moments = min (v.moments + 1) most_moments } = parts.1 in
    let next : w.moments ≡ v.moments + 1 =
    ap (λ (u : FramesView). u.moments) after
    ∙ counted-next v.moments most_moments (rw (ap (λ (u : FramesView). u.moments) after) at low) in
    let number : base.moment ≡ v.moments = ap (λ (b : BaseView). b.moment) has in
    let none : w.latest ≡ None = ap (λ (u : FramesView). u.latest) after in
    record {
      shown_then = with_moment s v.moments x;
      agree = with-others s v.moments x;
      more = omega (arith, next);
      latest = rw none tt;
      moment = omega (arith, next, number);
      shown = ap (with_moment s v.moments x) number ∙ with-last s v.moments x;
    }
base-counted s now v w (Some f) last base is l are low takes =
    let parts = rw is at takes in
    let has : base ≡ f.base = parts.0 in
    let after : w.latest ≡ Some f = parts.1.0 in
    let count : w.moments ≡ v.moments = parts.1.1 in
    let same : IsNumbered s v.moments (grid_size now.state.shown) f = rw is at are.latest in
    let number : base.moment ≡ f.base.moment = ap (λ (b : BaseView). b.moment) has in
    record {
      shown_then = s;
      agree = λ n below. refl;
      more = omega (arith, count);
      latest = rw (after, count) same;
      moment = omega (arith, count, number, same.moment);
      shown = ap s number ∙ sym same.shown ∙ l.shown;
    }

-- the frame that is due from a client's last one is numbered
pub frame-numbered : (s : ℕ → Shown) (now : ScreenView) (v w : FramesView) (last : Option FrameView) (base : BaseView)
    (f : FrameView) (c : IsCounted s (grid_size now.state.shown) (shown_state now.state) v w base)
    → IfSome last (IsNumbered s v.moments (grid_size now.state.shown)) → f.from ≡ moment_of last → f.base ≡ base
    → shown_state base.screen.state ≡ shown_state now.state
    → f.answer ≡ due (grid_size now.state.shown) (shown_state now.state) (shown_at_last last)
    → f.text ≡ frame_text (grid_size now.state.shown) (shown_at_last last) (shown_state now.state)
    → IsNumbered c.shown_then w.moments (grid_size now.state.shown) f
frame-numbered s now v w last base f c each from is_base shows answer text =
    let z = grid_size now.state.shown in
    let t = c.shown_then in
    let number : f.base.moment ≡ base.moment = ap (λ (b : BaseView). b.moment) is_base in
    let screen : shown_state f.base.screen.state ≡ shown_state now.state =
    ap (λ (b : BaseView). shown_state b.screen.state) is_base ∙ shows in
    let at : shown_state now.state ≡ t f.base.moment = sym (ap t number ∙ c.shown) in
    let later = last-more s t v.moments w.moments z last c.more c.agree each in
    let led : shown_at_last last ≡ option_map t f.from =
    sym (ap (λ o. option_map t o) from ∙ last-shown t w.moments z last later) in
    record {
      known = rw from (last-known s v.moments w.moments z last c.more each);
      moment = omega (arith, number, c.moment);
      shown = screen ∙ at;
      answer = answer ∙ (λ i. due z (at i) (led i));
      text = text ∙ (λ i. frame_text z (led i) (at i));
    }

-- ---- a frame is kept for others

module _ (f : FrameView) (moments : ℕ) where
  -- it is the latest frame
  pub kept-latest : (now : ScreenView) (latest : Option FrameView) (n : ℕ) → n ≡ moments
      → IfSome latest (λ l. (l ≡ f) × (moments < most_moments)) → IsFrameOf now f
      → shown_state f.base.screen.state ≡ shown_state now.state → IfSome latest (IsLatestOf now n)
  kept-latest now None n is h frame shown = tt
  kept-latest now (Some l) n is h frame shown =
      rw h.0 (record { frame = frame; shown = shown; counted = omega (arith, is, h.1) })

  -- and it is numbered
  pub kept-numbered : (s : ℕ → Shown) (z : Size) (latest : Option FrameView) (n : ℕ) → n ≡ moments
      → IfSome latest (λ l. (l ≡ f) × (moments < most_moments)) → IsNumbered s moments z f
      → IfSome latest (IsNumbered s n z)
  kept-numbered s z None n is h numbered = tt
  kept-numbered s z (Some l) n is h numbered = rw (h.0, is) numbered

-- ---- nothing is numbered

pub keeps-same : (z : Size) (v : FramesView) (last given : Option FrameView)
    → ((s : ℕ → Shown) → AreNumbered s z v last → IfSome given (IsNumbered s v.moments z)) → KeepsNumbers z v last v given
keeps-same z v last given gives = record {
  more = λ low. omega arith;
  goes_on = λ s are low. record {
    shown_then = s;
    agree = λ n below. refl;
    after = record { latest = are.latest; last = gives s are };
  };
}

-- ---- the base of a new frame

pub copy-unsure : (now : ScreenView) → IsUnscrolled now.state → is_unsure_screen now ≡ is_unsure_screen (copy_of now)
copy-unsure now u =
    let copy = copies-same now.state u in
    λ i. is_unsure (sym copy.same.size i) (sym copy.same.shown i)

pub takes-latest : (now : ScreenView) (v w : FramesView) (f : FrameView) (base : BaseView) → v.latest ≡ Some f
    → base ≡ f.base → w ≡ v → TakesNumber now v base w
takes-latest now v w f base is has same =
    rw is (has, (ap (λ (u : FramesView). u.latest) same ∙ is, ap (λ (u : FramesView). u.moments) same))

pub takes-next : (now : ScreenView) (v w : FramesView) (base : BaseView) → v.latest ≡ None
    → base ≡ record { moment = v.moments; screen = copy_of now }
    → w ≡ record { latest = None; moments = min (v.moments + 1) most_moments } → TakesNumber now v base w
takes-next now v w base none has after = rw none (has, after)

-- ---- what a new frame leaves

takes-more : (now : ScreenView) (v w : FramesView) (latest : Option FrameView) (base : BaseView) → v.latest ≡ latest
    → TakesNumber now v base w → w.moments < most_moments → v.moments ≤ w.moments
takes-more now v w None base is takes low =
    let parts = rw is at takes in
    let after : w.moments ≡ min (v.moments + 1) most_moments = ap (λ (u : FramesView). u.moments) parts.1 in
    omega (arith, after, low)
takes-more now v w (Some f) base is takes low =
    let parts = rw is at takes in
    let count : w.moments ≡ v.moments = parts.1.1 in
    omega (arith, count)

-- no frame is given
pub base-keeps : (now : ScreenView) (v w : FramesView) (last : Option FrameView) (base : BaseView)
    → IfSome v.latest (IsLatestOf now v.moments) → TakesNumber now v base w
    → KeepsNumbers (grid_size now.state.shown) v last w None
base-keeps now v w last base l takes = record {
  more = takes-more now v w v.latest base refl takes;
  goes_on = λ s are low.
      let c = base-counted s now v w v.latest last base refl l are low takes in
      record { shown_then = c.shown_then; agree = c.agree; after = record { latest = c.latest; last = tt } };
}

-- a frame is given, and may be kept for others
pub frame-keeps : (now : ScreenView) (v w x : FramesView) (last : Option FrameView) (base : BaseView) (f : FrameView)
    → IsUnscrolled now.state → IfSome v.latest (IsLatestOf now v.moments) → TakesNumber now v base w
    → x.moments ≡ w.moments → IfSome x.latest (λ l. (l ≡ f) × (w.moments < most_moments)) → f.from ≡ moment_of last
    → f.base ≡ base → IsDueFrame now last f → KeepsNumbers (grid_size now.state.shown) v last x (Some f)
frame-keeps now v w x last base f u l takes count kept from is_base d = record {
  more = λ low.
      let low_then : w.moments < most_moments = omega (arith, count, low) in
      let more = takes-more now v w v.latest base refl takes low_then in
      omega (arith, more, count);
  goes_on = λ s are low.
      let z = grid_size now.state.shown in
      let low_then : w.moments < most_moments = omega (arith, count, low) in
      let c = base-counted s now v w v.latest last base refl l are low_then takes in
      let b = base-now now v w v.latest base u refl l takes in
      let n = frame-numbered s now v w last base f c are.last from is_base b.shown d.answer d.text in
      record {
        shown_then = c.shown_then;
        agree = c.agree;
        after = record {
          latest = kept-numbered f w.moments c.shown_then z x.latest x.moments count kept n;
          last = subst (λ m. IsNumbered c.shown_then m z f) (sym count) n;
        };
      };
}

-- a client's last frame is kept for others
pub last-keeps : (z : Size) (v w : FramesView) (last : Option FrameView) (f : FrameView) → last ≡ Some f
    → w.moments ≡ v.moments → IfSome w.latest (λ l. (l ≡ f) × (v.moments < most_moments)) → KeepsNumbers z v last w None
last-keeps z v w last f is count kept = record {
  more = λ low. omega (arith, count);
  goes_on = λ s are low. record {
    shown_then = s;
    agree = λ n below. refl;
    after = record {
      latest = kept-numbered f v.moments s z w.latest w.moments count kept (rw is at are.last);
      last = tt;
    };
  };
}

-- a frame that was made of what is due
pub frame-due : (now : ScreenView) (last : Option FrameView) (base : BaseView) (f : FrameView) → IsBaseNow now base
    → f.base ≡ base → is_frame f.answer ≡ true → IsShortFrame (grid_size now.state.shown) f.text
    → nat_lt longest_frame (length f.text) ≡ false
    → f.answer ≡ due (grid_size now.state.shown) (shown_state now.state) (shown_at_last last)
    → f.text ≡ frame_text (grid_size now.state.shown) (shown_at_last last) (shown_state now.state)
    → IsDueFrame now last f
frame-due now last base f b is brings short fits answer text = record {
  frame = record { base = rw is b.fits; brings = brings; short = short; fits = fits };
  shown = ap (λ (b : BaseView). shown_state b.screen.state) is ∙ b.shown;
  answer = answer;
  text = text;
}
