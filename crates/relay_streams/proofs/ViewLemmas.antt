-- Pieces that are given to a view one after another.
use Rattle.std.proofs.Common.{◌≡◌, ℕ, List, [], ◌∷◌, ◌++◌, Option, None, map, refl, sym, ap, ◌∙◌, subst}
use Rattle.std.proofs.lemmas.List.{map-append}
use Rattle.vte.specs.Moves.{Move, Gives}
use Rattle.vte.specs.Frames.{Drives, ends, gives}
use Rattle.vte.proofs.FrameMoves.{moves_follow}
use Rattle.termview.specs.declared.view.View.{View}
use Rattle.termview.specs.declared.until_cleared.UntilCleared.{UntilCleared}
use Rattle.terminal_model.specs.Term.{Size, Term}
use Rattle.termview.specs.Seen.{seen}
use Rattle.termview.specs.Timeout.{until_cleared}
use Rattle.termview.specs.Standing.{HoldsAt, Taken, view_size, shown_by}
use Rattle.relay_streams.specs.Shown.{IsTextShown, screen_text, sized}
use Rattle.relay_streams.specs.Led.{Led}

pub not_led : (view : View UntilCleared) → Led view [] view
not_led view = record {
  goes = λ parsed hold at. record {
    parsed' = parsed;
    hold' = hold;
    leads = ends parsed hold;
    holds = at;
    size = refl;
  };
}

-- more pieces
pub led_more : (a b c : View UntilCleared) (ps qs : List (List ℕ)) → Led a ps b → Led b qs c → Led a (ps ++ qs) c
led_more a b c ps qs first then = record {
  goes = λ parsed hold at.
      let l = first.goes parsed hold at in
      let m = then.goes l.parsed' l.hold' l.holds in
      record {
        parsed' = m.parsed';
        hold' = m.hold';
        leads = subst (λ (ms : List Move). Drives ms parsed hold m.parsed' m.hold') (sym (map-append Gives ps qs))
            (moves_follow (map Gives ps) (map Gives qs) parsed hold l.parsed' l.hold' m.parsed' m.hold' l.leads
            m.leads);
        holds = m.holds;
        size = m.size ∙ l.size;
      };
}

-- one more piece
pub led_on : (old now new : View UntilCleared) (pieces : List (List ℕ)) (piece : List ℕ) → Led old pieces now
    → ((parsed : List ℕ) (hold : Option (List ℕ)) → HoldsAt until_cleared now parsed hold
    → Taken until_cleared now parsed hold piece new)
    → Led old (pieces ++ piece ∷ []) new
led_on old now new pieces piece led take =
    led_more old now new pieces (piece ∷ []) led (record {
      goes = λ parsed hold at.
          let t = take parsed hold at in
          let p = t.leads in
          record {
            parsed' = p.parsed';
            hold' = p.hold';
            leads = gives piece [] parsed hold p.parsed' p.hold' p.calls p.ticks p.parsed' p.hold' p.takes
                (ends p.parsed' p.hold');
            holds = t.state_after;
            size = t.size;
          };
    })

-- what a fresh view shows once it has read pieces
pub shown_so : (fresh now : View UntilCleared) (z : Size) (pieces : List (List ℕ)) → HoldsAt until_cleared fresh [] None
    → view_size fresh ≡ z → Led fresh pieces now → IsTextShown z pieces (screen_text (view_size now)
    (shown_by now).cell)
shown_so fresh now z pieces at is led =
    let l = led.goes [] None at in
    let text : screen_text (view_size now) (shown_by now).cell
    ≡ screen_text (view_size now) (seen (view_size now) l.parsed').cell =
    ap (λ (t : Term). screen_text (view_size now) t.cell) l.holds.state_after.shows in
    let sized_so : view_size now ≡ z = l.size ∙ is in
    record {
      parsed = l.parsed';
      hold = l.hold';
      leads = l.leads;
      text_is = text ∙ ap (λ (y : Size). screen_text y (seen y l.parsed').cell) sized_so;
    }

pub size_is : (z : Size) (rows cols : ℕ) → z.rows ≡ rows → z.cols ≡ cols → z ≡ sized rows cols
size_is z rows cols e f = ap (λ n. sized n z.cols) e ∙ ap (λ n. sized rows n) f
