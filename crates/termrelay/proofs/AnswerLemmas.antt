-- The answers where a frame may be too long, and where none can be.
use Rattle.std.proofs.Common.{◌≡◌, ℕ, ◌*◌, ◌≤◌, ◌&&◌, Bool, true, false, List, [], ◌∷◌, Option, Some, None, refl, sym}
use Rattle.std.proofs.Common.{◌∙◌}
use Rattle.std.proofs.Common.{arith, length, if◌then◌else◌}
use Rattle.std.specs.Prelude.{nat_lt}
use Rattle.std.proofs.lemmas.Bool.{le-ltb}
use Rattle.terminal_model.specs.Term.{Size, Shown}
use Rattle.vt100_core.specs.Picture.{grid_size}
use Rattle.screen_model.specs.State.{State}
use Rattle.screen_model.specs.Shown.{shown_state}
use Rattle.termrelay.specs.declared.answer.Answer.{Answer}
use Rattle.termrelay.specs.declared.answer.Answer.TheVariants.{Held, TooLong}
use Rattle.termrelay.specs.Frame.{frame_text, IsShortFrame}
use Rattle.termrelay.specs.Answers.{ClientState, is_frame, due, wanted_to, wanted_of, longest_frame}
use Rattle.termrelay.specs.Answers.{is_too_long, unless_too_long, answer_to, answer_for, may_allocate}
use Rattle.termrelay.specs.Answers.{EachSmallScreenFits}
use Rattle.termrelay.proofs.FrameLengths.{frame-short}

-- ---- what is wanted

-- it is never `TooLong`
pub never-wanted : (now : State) (base : Option Shown) (owed : List ℕ) → wanted_to now base owed ≡ TooLong → ⊥
never-wanted now None [] e = grind arith
never-wanted now (Some base) [] e = grind arith
never-wanted now base (b ∷ bs) e = cc

-- ---- what is answered then

both-capped : (updating long : Bool) (answer : Answer)
    → (if updating then Held else if is_frame answer && long then TooLong else answer)
    ≡ (if is_frame (if updating then Held else answer) && long then TooLong else if updating then Held else answer)
both-capped true long answer = refl
both-capped false long answer = refl

-- the answer is what is wanted, unless that is a frame that is too long
answer-capped : (now : State) (base : Option Shown) (owed : List ℕ) → answer_to now base owed
    ≡ unless_too_long (grid_size now.shown) (shown_state now) base (wanted_to now base owed)
answer-capped now base [] =
    both-capped now.updating (is_too_long (grid_size now.shown) (shown_state now) base)
    (due (grid_size now.shown) (shown_state now) base)
answer-capped now base (b ∷ bs) = refl

module _ (now : State) (c : ClientState) (answer : Answer) (is : answer ≡ wanted_of now c) where
  capped : answer_for now c ≡ unless_too_long (grid_size now.shown) (shown_state now) c.base answer
  capped = rw is (answer-capped now c.base c.owed)

  -- no frame was wanted
  pub answer-none : is_frame answer ≡ false → answer ≡ answer_for now c
  answer-none none = rw (capped, none)

  -- a frame was wanted, which is too long or not
  pub answer-long : is_frame answer ≡ true → is_too_long (grid_size now.shown) (shown_state now) c.base ≡ true
      → TooLong ≡ answer_for now c
  answer-long frame long = rw (capped, frame, long)

  pub answer-short : is_too_long (grid_size now.shown) (shown_state now) c.base ≡ false → answer ≡ answer_for now c
  answer-short short = rw (capped, short) (grind arith)

-- no bytes are pending, and the program is in no synchronized update
pub answer-ready : (now : State) (base : Option Shown) (owed : List ℕ) → owed ≡ [] → now.updating ≡ false
    → answer_to now base owed ≡ unless_too_long (grid_size now.shown) (shown_state now) base
    (due (grid_size now.shown) (shown_state now) base)
answer-ready now base owed none ready = rw (none, ready) refl

-- what is due is never `TooLong`
pub never-due : (z : Size) (now : Shown) (base : Option Shown) → due z now base ≡ TooLong → ⊥
never-due z now None e = grind arith
never-due z now (Some base) e = grind arith

pub capped-short : (z : Size) (now : Shown) (base : Option Shown) (answer : Answer) → is_too_long z now base ≡ false
    → unless_too_long z now base answer ≡ answer
capped-short z now base answer short = rw short (grind arith)

-- whether it is too long, by a text of it
pub text-long : (z : Size) (base : Option Shown) (now : Shown) (text given : List ℕ) (long : Bool)
    → text ≡ frame_text z base now → given ≡ text → long ≡ nat_lt longest_frame (length given)
    → is_too_long z now base ≡ long
text-long z base now text given long is same tells = cc

-- ---- examples

pub held-first : (now : State) (base : Option Shown) → now.updating ≡ true → answer_to now base [] ≡ Held
held-first now base e = rw e

module _ (now : State) (base : Option Shown) (e : now.updating ≡ false) where
  due-wanted : due (grid_size now.shown) (shown_state now) base ≡ wanted_to now base []
  due-wanted = rw e

  pub due-answered : is_too_long (grid_size now.shown) (shown_state now) base ≡ false
      → answer_to now base [] ≡ due (grid_size now.shown) (shown_state now) base
  due-answered short = sym (answer-short now (record { owed = []; base = base }) _ due-wanted short)

  pub none-answered : is_frame (due (grid_size now.shown) (shown_state now) base) ≡ false
      → answer_to now base [] ≡ due (grid_size now.shown) (shown_state now) base
  none-answered none = sym (answer-none now (record { owed = []; base = base }) _ due-wanted none)

  pub long-answered : is_frame (due (grid_size now.shown) (shown_state now) base) ≡ true
      → is_too_long (grid_size now.shown) (shown_state now) base ≡ true → answer_to now base [] ≡ TooLong
  long-answered frame long = sym (answer-long now (record { owed = []; base = base }) _ due-wanted frame long)

-- ---- small screens

pub text-fits : (z : Size) (base : Option Shown) (now : Shown) (text : List ℕ) → text ≡ frame_text z base now
    → IsShortFrame z text → z.rows * z.cols ≤ 2000 → is_too_long z now base ≡ false
text-fits z base now text is short few =
    let fits = le-ltb longest_frame (length text) (omega arith) in cc

pub small-fits : EachSmallScreenFits
small-fits now c bytes small few e =
    let z = grid_size now.shown in
    let s = shown_state now in
    let fits = text-fits z c.base s (frame_text z c.base s) refl (frame-short z c.base s bytes small) few in
    never-wanted now c.base c.owed (answer-short now c (wanted_of now c) refl fits ∙ e)
