use Rattle.std.proofs.Common.{◌≡◌, ◌∙◌, true, sym}
use Rattle.std.proofs.lemmas.Bool.{false≢true}
use Rattle.vt100_core.specs.Copy.{AreDrawnAlike}
use Rattle.vt100.proofs.CopyLemmas.{extras-true, extras-same, alike-same, same-alike}
use Rattle.vt100.proofs.screen.Screen.shows_same.Goals as goal

pub returns-then-has_same_extras-clause-drawn : goal.returns-then-has_same_extras-clause-drawn
returns-then-has_same_extras-clause-drawn c =
    let s = c.args.self.now.state in
    let t = c.args.other.now.state in
    let extras = sym c.has_same_extras.ensures ∙ c.if-has_same_extras.true in
    let alike : (c.is_drawn_alike.result ≡ true → AreDrawnAlike s.shown t.shown)
    × (AreDrawnAlike s.shown t.shown → c.is_drawn_alike.result ≡ true) =
    rw (← c.self.view_is, ← c.other.view_is) c.is_drawn_alike.ensures in
    (λ yes. record { drawn = alike.0 yes; extras = extras }, λ same. alike.1 same.drawn)

pub returns-else-has_same_extras-clause-drawn : goal.returns-else-has_same_extras-clause-drawn
returns-else-has_same_extras-clause-drawn c = (
  λ yes. absurd (false≢true (sym c.if-has_same_extras.false ∙ yes)),
  λ same. c.has_same_extras.ensures ∙ same.extras,
)

pub returns-then-has_same_extras-clause-shown : goal.returns-then-has_same_extras-clause-shown
returns-then-has_same_extras-clause-shown c u w =
    let s = c.args.self.now.state in
    let t = c.args.other.now.state in
    let extras = extras-true s t (sym c.has_same_extras.ensures ∙ c.if-has_same_extras.true) in
    let alike : (c.is_drawn_alike.result ≡ true → AreDrawnAlike s.shown t.shown)
    × (AreDrawnAlike s.shown t.shown → c.is_drawn_alike.result ≡ true) =
    rw (← c.self.view_is, ← c.other.view_is) c.is_drawn_alike.ensures in
    (λ yes. alike-same s t u w extras (alike.0 yes), λ same. alike.1 (same-alike s t u w same))

pub returns-else-has_same_extras-clause-shown : goal.returns-else-has_same_extras-clause-shown
returns-else-has_same_extras-clause-shown c u w = (
  λ yes. absurd (false≢true (sym c.if-has_same_extras.false ∙ yes)),
  λ same. c.has_same_extras.ensures ∙ extras-same c.args.self.now.state c.args.other.now.state same,
)
