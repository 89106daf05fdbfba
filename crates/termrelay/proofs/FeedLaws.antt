-- Feeds one after another.
use Rattle.std.proofs.Common.{◌≡◌, ℕ, List, [], ◌∷◌, ◌++◌, append_assoc, ap, sym, ◌∙◌, refl, Result, Ok, Err}
use Rattle.screen_model.specs.Made.{Act, Fed, bytes_fed, made}
use Rattle.vt100.specs.Parsing.{ParserView}
use Rattle.vt100.specs.Tries.{alive}
use Rattle.vt100.proofs.PlayLemmas.{feeds_join, acts_follow}
use Rattle.termrelay.proofs.MadeLemmas.{bytes-more}
use Rattle.termrelay.specs.Hub.{GoesOn, Feeds}
use Rattle.termrelay.specs.Calls.{done}
use Rattle.termrelay.specs.Laws.{TwoFeedsAreOne, TwoFeedsRunAsOne}
use Rattle.termrelay.specs.declared.runs.call.Reply.TheVariants.{Done}
use Rattle.termrelay.specs.declared.error.HubError.{HubError}

bytes-joined : (acts : List Act) (a b : List ℕ)
    → bytes_fed ((acts ++ Fed a ∷ []) ++ Fed b ∷ []) ≡ bytes_fed (acts ++ Fed (a ++ b) ∷ [])
bytes-joined acts a b =
    rw (bytes-more (acts ++ Fed a ∷ []) b, bytes-more acts a, bytes-more acts (a ++ b))
    (append_assoc (bytes_fed acts) a b)

made-joined : (rows cols capacity : ℕ) (acts : List Act) (a b : List ℕ)
    → made rows cols capacity ((acts ++ Fed a ∷ []) ++ Fed b ∷ []) ≡ made rows cols capacity (acts ++ Fed (a ++ b) ∷ [])
made-joined rows cols capacity acts a b =
    ap (made rows cols capacity) (append_assoc acts (Fed a ∷ []) (Fed b ∷ []))
    ∙ acts_follow rows cols capacity acts (Fed a ∷ Fed b ∷ [])
    ∙ feeds_join (bytes_fed acts) (made rows cols capacity acts) a b []
    ∙ sym (acts_follow rows cols capacity acts (Fed (a ++ b) ∷ []))

goes-on : (p q r : ParserView (Unit {0})) (a b : List ℕ) → GoesOn p (Fed a) q → GoesOn q (Fed b) r
    → GoesOn p (Fed (a ++ b)) r
goes-on p q r a b one two rows cols capacity acts at =
    let then = two rows cols capacity (acts ++ Fed a ∷ []) (one rows cols capacity acts at) in
    record {
      has_read = rw (bytes-joined acts a b) at then.has_read;
      screen = then.screen ∙ ap alive (made-joined rows cols capacity acts a b);
    }

pub feeds-joined : TwoFeedsAreOne
feeds-joined h g k a b one two =
    (one.0, two.1, two.2 ∙ one.2, goes-on h.parser g.parser k.parser a b one.3 two.3)

done-ok : (result : Result (Unit {0}) HubError) → Done ≡ done result → result ≡ Ok tt
done-ok (Ok u) e = refl
done-ok (Err error) e = absurd cc

pub feeds-run : TwoFeedsRunAsOne
feeds-run h k ss ts a b calls replies (g, is, (first, fed, e), (m, also, (second, more, f), later)) =
    let one : Feeds h a (Ok tt) g = rw (done-ok first e) at fed in
    let two : Feeds g b (Ok tt) m = rw (done-ok second f) at more in
    (m, tt, (Ok tt, feeds-joined h g m a b one two, refl), later)
