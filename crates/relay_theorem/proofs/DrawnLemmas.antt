-- Redraws and whole frames of sessions, and what is shown that begins with a redraw.
use Rattle.std.proofs.Common.{◌≡◌, ◌∙◌, ℕ, false, List, [], ◌++◌, Option, Some, None, Ok}
use Rattle.std.proofs.Common.{refl, sym, ap, subst, length}
use Rattle.std.specs.List.{concat}
use Rattle.terminal_model.specs.Term.{Size, Shown, shown_of}
use Rattle.termrelay.specs.Answers.{ClientState}
use Rattle.termrelay.specs.Redraw.{redraw_of}
use Rattle.termrelay.specs.Whole.{whole_of}
use Rattle.termrelay.specs.Hub.{HubState, size_in, clients_in}
use Rattle.termrelay.specs.Joins.{DrawsFrom}
use Rattle.termrelay.specs.Calls.{Call}
use Rattle.termrelay.specs.declared.runs.call.Reply.{Reply}
use Rattle.termview.specs.Seen.{seen}
use Rattle.relay_theorem.specs.History.{as_reported, fresh, Entry, Story, size_of_story}
use Rattle.relay_theorem.specs.Judge.{texts, last_frame, whole_in}
use Rattle.relay_theorem.specs.Laws.{base_after, AreAnswered, IsReported, IsSession}
use Rattle.relay_theorem.specs.Redraws.{ReadsRedraw, redrawn_then, RedrawnFramesAreShown, NoRedrawIsTorn}
use Rattle.relay_theorem.specs.Redraws.{EachRedrawIsReported}
use Rattle.relay_theorem.specs.Wholes.{EachWholeIsReported, EachWholeMatches}
use Rattle.relay_theorem.proofs.StoryLemmas.{all-at}
use Rattle.relay_theorem.proofs.HistoryLemmas.{IsIn, went-kept, fresh-went, sessions-reported}
use Rattle.relay_theorem.proofs.ServesLemmas.{drawn-matches}
use Rattle.relay_theorem.proofs.HeadlineLemmas.{answered-prefix}
use Rattle.relay_theorem.proofs.RedrawLemmas.{Shows, shows-all, answered-back, redrawn-seen, redrawn-judged}

-- ---- a session's first answers, and the later ones

module _ (rows cols : ℕ) (calls : List Call) (replies : List Reply) (n : ℕ) (t : Story)
    (s : IsSession rows cols calls replies n t) (first later : List Entry) (parts : t.entries ≡ first ++ later) where
  abbrev reported : IsReported rows cols (clients_in s.hub) t
  reported = sessions-reported rows cols calls replies n t s

  abbrev base : Option Shown
  base = base_after rows cols None first

  joined : AreAnswered rows cols (size_of_story t) None (first ++ later)
  joined = subst (AreAnswered rows cols (size_of_story t) None) parts reported.entries

  pub later-answered : AreAnswered rows cols (size_of_story t) base later
  later-answered =
      answered-back rows cols (size_of_story t) reported.height reported.width None first later joined

  pub first-shows : Shows rows cols (size_of_story t) reported.height reported.width base (last_frame None first)
  first-shows =
      shows-all rows cols (size_of_story t) reported.height reported.width None None first refl
      (answered-prefix rows cols (size_of_story t) None first later joined)

-- ---- what is shown

then-seen : (rows cols : ℕ) (calls : List Call) (replies : List Reply) (n : ℕ) (t : Story) (redraw : List ℕ)
    (first later : List Entry) (pieces : List (List ℕ)) (parsed : List ℕ) → IsSession rows cols calls replies n t
    → ReadsRedraw rows cols t redraw first later pieces parsed
    → seen (size_of_story t) parsed
    ≡ seen (size_of_story t) (texts (whole_in (redrawn_then redraw first later) (length (concat pieces))))
then-seen rows cols calls replies n t redraw first later pieces parsed s r =
    let h = sessions-reported rows cols calls replies n t s in
    redrawn-seen rows cols (size_of_story t) h.height h.width redraw (base_after rows cols None first) later pieces parsed
    r.reads.beyond r.reads.hold (later-answered rows cols calls replies n t s first later r.parts) r.made r.reads.joined
    r.reads.leads (last_frame None first) (first-shows rows cols calls replies n t s first later r.parts)

pub redraw-shown : RedrawnFramesAreShown
redraw-shown rows cols calls replies n t redraw first later pieces parsed s r sure =
    let h = sessions-reported rows cols calls replies n t s in
    ap shown_of (then-seen rows cols calls replies n t redraw first later pieces parsed s r)
    ∙ redrawn-judged rows cols (size_of_story t) h.height h.width redraw (base_after rows cols None first) later pieces
    parsed r.reads.beyond r.reads.hold (later-answered rows cols calls replies n t s first later r.parts) r.made
    r.reads.joined r.reads.leads (last_frame None first)
    (first-shows rows cols calls replies n t s first later r.parts) sure

pub redraw-untorn : NoRedrawIsTorn
redraw-untorn rows cols calls replies n t redraw first later pieces more parsed parsed' s r q same =
    ap shown_of (then-seen rows cols calls replies n t redraw first later (pieces ++ more) parsed' s q
    ∙ ap (λ es. seen (size_of_story t) (texts es)) same
    ∙ sym (then-seen rows cols calls replies n t redraw first later pieces parsed s r))

-- ---- what a hub answers

-- the size of a session that hasn't ended is the screen's
session-size : (rows cols : ℕ) (calls : List Call) (replies : List Reply) (n : ℕ) (t : Story)
    (s : IsSession rows cols calls replies n t) → t.session.ended ≡ false → size_of_story t ≡ size_in s.hub
session-size rows cols calls replies n t s alive =
    let run = went-kept (fresh rows cols) s.hub [] s.stories calls replies
    (fresh-went rows cols s.hub s.stories calls replies s.height s.width s.ran) in
    (all-at (IsIn s.hub) s.stories n t run.0.each s.is).size alive

module _ (text_of : Size → Option Shown → Option (List ℕ)) where
  drawn-is : (h : HubState as_reported) (o : Option ClientState) (c : ClientState) (text : Option (List ℕ))
      → o ≡ Some c → DrawsFrom text_of h o (Ok text) → text ≡ text_of (size_in h) c.base
  drawn-is h None c text at f = absurd (let no : None ≡ Some c = at in cc)
  drawn-is h (Some d) c text at f =
      let same : d ≡ c = cc in f.1 ∙ ap (λ (x : ClientState). text_of (size_in h) x.base) same

  drawn-reported : (rows cols : ℕ) (calls : List Call) (replies : List Reply) (n : ℕ) (t : Story)
      (s : IsSession rows cols calls replies n t) → t.session.ended ≡ false → (text : Option (List ℕ))
      → DrawsFrom text_of s.hub (clients_in s.hub t.session.client) (Ok text)
      → text ≡ text_of (size_of_story t) (base_after rows cols None t.entries)
  drawn-reported rows cols calls replies n t s alive text f =
      let h = sessions-reported rows cols calls replies n t s in
      let c = h.served alive in
      drawn-is s.hub (clients_in s.hub t.session.client) c.0 text c.1 f
      ∙ ap (λ z. text_of z c.0.base) (sym (session-size rows cols calls replies n t s alive))
      ∙ ap (text_of (size_of_story t)) c.2.base

pub redraws-reported : EachRedrawIsReported
redraws-reported = drawn-reported redraw_of

pub wholes-reported : EachWholeIsReported
wholes-reported = drawn-reported whole_of

pub wholes-match : EachWholeMatches
wholes-match h u key result m f = drawn-matches h u m whole_of key result f
