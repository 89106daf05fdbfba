-- A view's calls as steps of a terminal.
use Rattle.std.proofs.Common.{◌≡◌, ℕ, List, [], ◌∷◌, ◌++◌, None, sym, refl, ap, ◌∙◌}
use Rattle.vte_core.specs.Shapes.{events}
use Rattle.vte_core.proofs.AddedLemmas.{added-first}
use Rattle.vte_types.specs.Call.{Call, Calls}
use Rattle.vte.specs.Performed.{calls_of_all}
use Rattle.vte.specs.Stretch.{calls_from}
use Rattle.vte.specs.Hold as hold
use Rattle.vte.specs.Closings.{WithClosings, none, call, closing, Parses}
use Rattle.vte.proofs.HoldLemmas.{calls_from-append}
use Rattle.terminal_model.specs.Term.{Size, Term, blank_term}
use Rattle.termview.specs.Step.{view_step, view_steps}
use Rattle.termview.specs.Seen.{seen}
use Rattle.termview.specs.Picture.{PictureView, term_of_picture, Becomes, Does}

-- ---- calls, one after the other

pub calls-become : (cs : List Call) (p q : PictureView) → Calls Does p cs q
    → Becomes p q (view_steps p.size cs (term_of_picture p))
calls-become [] p q e = record { size = ap (λ (x : PictureView). x.size) e; shows = ap term_of_picture e }
calls-become (c ∷ cs) p q g =
    let mid = g.0 in
    let first = g.1 in
    let rest = calls-become cs mid q g.2 in
    record {
      size = rest.size ∙ first.size;
      shows = rest.shows ∙ ap (λ z. view_steps z cs (term_of_picture mid)) first.size ∙ ap (view_steps p.size cs)
          first.shows;
    }

pub view_steps-append : (z : Size) (a b : List Call) (t : Term)
    → view_steps z (a ++ b) t ≡ view_steps z b (view_steps z a t)
view_steps-append z [] b t = refl
view_steps-append z (c ∷ a) b t = view_steps-append z a b (view_step z c t)

-- a closing does nothing
pub closings-idle : (z : Size) (cs : List Call) (n : ℕ) (calls : List Call) (t : Term) → WithClosings cs n calls
    → view_steps z calls t ≡ view_steps z cs t
unfolding view_step
closings-idle z [] n calls t none = refl
closings-idle z (c ∷ cs) n (_ ∷ calls) t (call _ _ _ _ h) = closings-idle z cs _ calls (view_step z c t) h
closings-idle z cs n (_ ∷ calls) t (closing _ _ _ h) = closings-idle z cs _ calls t h

-- ---- the bytes that were parsed

first-calls : (bytes : List ℕ) → calls_from [] bytes ≡ calls_of_all None (events 1024 bytes)
first-calls bytes = ap (calls_of_all None) (added-first 1024 bytes)

pub seen-append : (z : Size) (parsed bytes : List ℕ)
    → seen z (parsed ++ bytes) ≡ view_steps z (calls_from parsed bytes) (seen z parsed)
seen-append z parsed bytes =
    ap (λ cs. view_steps z cs blank_term) (sym (first-calls (parsed ++ bytes)) ∙ calls_from-append [] parsed bytes)
    ∙ view_steps-append z (calls_from [] parsed) (calls_from parsed bytes) blank_term
    ∙ ap (λ cs. view_steps z (calls_from parsed bytes) (view_steps z cs blank_term)) (first-calls parsed)

-- a picture that shows what the parsed bytes make shows, after the calls of more of them, what all make
pub goes-on : (p q : PictureView) (parsed parsed' : List ℕ) (n : ℕ) (calls : List Call)
    → term_of_picture p ≡ seen p.size parsed → Parses parsed parsed' n calls → Calls Does p calls q
    → (q.size ≡ p.size) × (term_of_picture q ≡ seen q.size parsed')
goes-on p q parsed parsed' n calls shows h g =
    let done = calls-become calls p q g in
    let now : term_of_picture q ≡ seen p.size parsed' =
    done.shows ∙ closings-idle p.size (calls_from parsed h.bytes) n calls (term_of_picture p) h.made
    ∙ ap (view_steps p.size (calls_from parsed h.bytes)) shows ∙ sym (seen-append p.size parsed h.bytes)
    ∙ ap (seen p.size) (sym h.more) in
    (done.size, now ∙ ap (λ z. seen z parsed') (sym done.size))

-- the same, if the buffered bytes were parsed
pub emptied-on : (p q : PictureView) (parsed bytes : List ℕ) → term_of_picture p ≡ seen p.size parsed
    → Calls Does p (calls_from parsed bytes ++ hold.closing) q
    → (q.size ≡ p.size) × (term_of_picture q ≡ seen q.size (parsed ++ bytes))
unfolding view_step
emptied-on p q parsed bytes shows g =
    let done = calls-become (calls_from parsed bytes ++ hold.closing) p q g in
    let now : term_of_picture q ≡ seen p.size (parsed ++ bytes) =
    done.shows ∙ view_steps-append p.size (calls_from parsed bytes) hold.closing (term_of_picture p)
    ∙ ap (view_steps p.size (calls_from parsed bytes)) shows ∙ sym (seen-append p.size parsed bytes) in
    (done.size, now ∙ ap (λ z. seen z (parsed ++ bytes)) (sym done.size))
