-- Sheets keep their sizes, and how many rows they keep at most.
use Rattle.std.proofs.Common.{◌≡◌, ◌∙◌, ℕ, zero, suc, Bool, Option, true, false, cond, refl, sym, ap, nat_lt, arith}
use Rattle.std.proofs.lemmas.Bool.{cond_both}
use Rattle.vt100_forms.specs.declared.attrs.Attrs.{Attrs}
use Rattle.vt100_cells.specs.Cell.{columns_of}
use Rattle.terminal_model.specs.Apply.{is_dropped}
use Rattle.vt100_core.specs.Grid.{GridView, SameLimits}
use Rattle.vt100_core.specs.Scroll.{scrolled_up, fed, wrapped_on, made_to_fit}
use Rattle.vt100_core.specs.Text.{PrintedGrid, printed, joined}
use Rattle.screen_model.specs.State.{State, main_sheet, alternate_sheet}
use Rattle.screen_model.specs.Step.{typed, typed_times}
use Rattle.vt100.specs.Tries.{SameBounds}
use Rattle.vt100_core.proofs.GridLemmas.{SameLimits-trans}

-- a sheet's size, and whether and how many rows it keeps
abbrev limits_of : GridView → ℕ × ℕ × Bool × ℕ
limits_of g = (g.height, g.width, g.kept.keeps, g.kept.capacity)

limits-scrolled : (g : GridView) (n : ℕ) → limits_of (scrolled_up g n).grid ≡ limits_of g
unfolding scrolled_up
limits-scrolled g n = grind arith

limits-fed : (g : GridView) (n : ℕ) → limits_of (fed g n).grid ≡ limits_of g
unfolding fed
limits-fed g n = grind (arith, limits-scrolled)

limits-wrapped : (g : GridView) (wrap : Bool) → limits_of (wrapped_on g wrap).grid ≡ limits_of g
unfolding wrapped_on
limits-wrapped g wrap = grind (arith, limits-fed)

limits-made : (g : GridView) (columns : ℕ) (wrap : Bool) → limits_of (made_to_fit g columns wrap).grid ≡ limits_of g
limits-made g columns wrap = grind (arith, limits-wrapped)

limits-joined : (g : GridView) (c : ℕ) (a : Attrs) → limits_of (joined g c a).grid ≡ limits_of g
limits-joined g c a = grind (arith, limits-wrapped)

limits-printed : (g : GridView) (c : ℕ) (a : Attrs) → limits_of (printed g c a).grid ≡ limits_of g
unfolding printed
limits-printed g c a =
    let P = λ (d : PrintedGrid). limits_of d.grid ≡ limits_of g in
    cond_both (is_dropped g.width g.col c) _ _ P (λ _. refl)
    (λ _. cond_both (nat_lt 0 (columns_of c)) _ _ P (λ _. limits-made g (columns_of c) true) (λ _. limits-joined g c a))

-- ---- of a state

limits : {g h : GridView} → limits_of h ≡ limits_of g → SameLimits g h
limits e = record {
  height = ap (λ (l : ℕ × ℕ × Bool × ℕ). l.0) e;
  width = ap (λ (l : ℕ × ℕ × Bool × ℕ). l.1) e;
  kept = record {
    keeps = ap (λ (l : ℕ × ℕ × Bool × ℕ). l.2) e;
    capacity = ap (λ (l : ℕ × ℕ × Bool × ℕ). l.3) e;
  };
}

pub bounds_same : (s : State) → SameBounds s s
bounds_same s = record { main = limits refl; alternate = limits refl }

pub bounds_trans : (s t u : State) → SameBounds s t → SameBounds t u → SameBounds s u
bounds_trans s t u p q = record {
  main = SameLimits-trans (main_sheet s) (main_sheet t) (main_sheet u) p.main q.main;
  alternate = SameLimits-trans (alternate_sheet s) (alternate_sheet t) (alternate_sheet u) p.alternate q.alternate;
}

limits-if : (b : Bool) (g h k l : GridView) → SameLimits g h → SameLimits k l → SameLimits (cond b g k) (cond b h l)
limits-if true g h k l p q = p
limits-if false g h k l p q = q

limits-typed : (c : ℕ) (s : State) → SameLimits s.shown (typed c s).state.shown
limits-typed c s = limits (limits-printed s.shown c s.attrs)

-- the shown sheet has changed
pub bounds_drawn : (s : State) (g : GridView) (last : Option ℕ) → SameLimits s.shown g
    → SameBounds s (record s { shown = g; last = last })
bounds_drawn s g last h = record {
  main = limits-if s.alternate _ _ _ _ (limits refl) h;
  alternate = limits-if s.alternate _ _ _ _ h (limits refl);
}

pub bounds_typed : (c : ℕ) (s : State) → SameBounds s (typed c s).state
bounds_typed c s = bounds_drawn s _ _ (limits-typed c s)

limits-back : (g h k : GridView) → SameLimits g h → SameLimits g k → SameLimits h k
limits-back g h k p q = record {
  height = q.height ∙ sym p.height;
  width = q.width ∙ sym p.width;
  kept = record { keeps = q.kept.keeps ∙ sym p.kept.keeps; capacity = q.kept.capacity ∙ sym p.kept.capacity };
}

pub bounds_back : (s t u : State) → SameBounds s t → SameBounds s u → SameBounds t u
bounds_back s t u p q = record {
  main = limits-back (main_sheet s) (main_sheet t) (main_sheet u) p.main q.main;
  alternate = limits-back (alternate_sheet s) (alternate_sheet t) (alternate_sheet u) p.alternate q.alternate;
}

pub capacity_typed : (c : ℕ) (s : State) → (typed c s).state.shown.kept.capacity ≡ s.shown.kept.capacity
capacity_typed c s = (limits-typed c s).kept.capacity
