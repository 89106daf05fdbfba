-- Redraws that the calls of a run are answered with.
use Rattle.std.proofs.Common.{◌≡◌, ◌∙◌, ℕ, List, [], ◌∷◌, ◌++◌, Some, None, refl, sym, ap, subst, length, drop}
use Rattle.std.proofs.Common.{append_assoc}
use Rattle.std.specs.Prelude.{slice_get}
use Rattle.std.specs.Option.{option_map}
use Rattle.std.specs.List.{concat}
use Rattle.terminal_model.specs.Term.{shown_of}
use Rattle.termview.specs.Seen.{seen}
use Rattle.termrelay.specs.Hub.{HubState}
use Rattle.termrelay.specs.Calls.{Call, Redraw, IsRedrawn}
use Rattle.termrelay.specs.Log.{SessionView}
use Rattle.termrelay.specs.declared.runs.call.Reply.{Reply}
use Rattle.termrelay.specs.declared.runs.call.Reply.TheVariants.{Redrawn}
use Rattle.relay_theorem.specs.History.{as_reported, fresh, Entry, Story, size_of_session, stories_after, RunsReported}
use Rattle.relay_theorem.specs.Judge.{texts, IsShownRight}
use Rattle.relay_theorem.specs.Laws.{base_after}
use Rattle.relay_theorem.specs.Headline.{ReadsPrefix}
use Rattle.relay_theorem.specs.Redraws.{redraw_after, ReadsRedraw, last_redrawn, IsRedraw, RedrawnIn, GrowsTo}
use Rattle.relay_theorem.specs.Redraws.{EachRunRedraws, LoggedRedrawsAreShown}
use Rattle.termrelay.specs.Redraw.{redraw_of}
use Rattle.relay_theorem.proofs.CallLemmas.{serves-does, does-after}
use Rattle.relay_theorem.proofs.HistoryLemmas.{sessions-reported}
use Rattle.relay_theorem.proofs.LoggedLemmas.{logged-story}
use Rattle.relay_theorem.proofs.GrowthLemmas.{stories-grow}
use Rattle.relay_theorem.proofs.DrawnLemmas.{redraws-reported, redraw-shown}

-- ---- a run, from one of its calls on

run-split : (h g k : HubState as_reported) (ts ws us : List Story) (before later : List Call)
    (replied others : List Reply) → RunsReported h ts before replied g ws
    → RunsReported h ts (before ++ later) (replied ++ others) k us → RunsReported g ws later others k us
run-split h g k ts ws us [] later [] others first run =
    subst (λ x. RunsReported x ws later others k us) (sym first.0)
    (subst (λ xs. RunsReported h xs later others k us) (sym first.1) run)
run-split h g k ts ws us [] later (r ∷ rs) others first run = absurd first
run-split h g k ts ws us (c ∷ cs) later [] others first run = absurd first
run-split h g k ts ws us (c ∷ cs) later (r ∷ rs) others (m, is, serves, rest) (n, so, gives, further) =
    let same : n ≡ m = does-after h c r n (serves-does h n c r gives)
    ∙ sym (does-after h c r m (serves-does h m c r serves)) in
    run-split m g k (stories_after h c r ts) ws us cs later rs others rest
    (subst (λ x. RunsReported x (stories_after h c r ts) (cs ++ later) (rs ++ others) k us) same further)

-- ---- the redraw

drawn-by : (rows cols : ℕ) (calls : List Call) (replies : List Reply) (n : ℕ) (t : Story) (redraw : List ℕ)
    (r : RedrawnIn rows cols calls replies n t redraw) (reply : Reply) → IsRedraw redraw reply
    → IsRedrawn r.session.hub t.session.client reply → redraw_after rows cols t t.entries ≡ Some redraw
drawn-by rows cols calls replies n t redraw r (Redrawn text) is f =
    sym (redraws-reported rows cols r.before r.replied n t r.session r.live (option_map (λ bytes. bytes.items) text) f)
    ∙ is
drawn-by rows cols calls replies n t redraw r _ is f = absurd is

same-grown : (t u v : Story) (us : List Story) (n : ℕ) → slice_get us n ≡ Some v → slice_get us n ≡ Some u
    → GrowsTo t v → GrowsTo t u
same-grown t u v us n at is g = let both : Some v ≡ Some u = sym at ∙ is in
    let same : v ≡ u = cc in subst (GrowsTo t) same g

pub run-redraws : EachRunRedraws
run-redraws rows cols calls replies n t u redraw r s =
    let first = r.session in
    let call = Redraw t.session.client in
    let ran = subst (λ cs. RunsReported (fresh rows cols) [] cs (r.replied ++ r.reply ∷ r.others) s.hub s.stories)
    r.calls_are
    (subst (λ rs. RunsReported (fresh rows cols) [] calls rs s.hub s.stories) r.replies_are s.ran) in
    let rest = run-split (fresh rows cols) first.hub s.hub [] first.stories s.stories r.before (call ∷ r.later) r.replied
    (r.reply ∷ r.others) first.ran ran in
    let grown = stories-grow first.hub s.hub first.stories s.stories (call ∷ r.later) (r.reply ∷ r.others) n t rest
    first.is in (
      drawn-by rows cols calls replies n t redraw r r.reply r.told rest.2.0,
      same-grown t u grown.0 s.stories n grown.1 s.is grown.2,
    )

-- ---- the later bytes

texts-joined : (es fs : List Entry) → texts (es ++ fs) ≡ texts es ++ texts fs
texts-joined [] fs = refl
texts-joined (e ∷ es) fs =
    ap (λ xs. e.text ++ xs) (texts-joined es fs) ∙ sym (append_assoc e.text (texts es) (texts fs))

rest-of : (first later bytes left : List ℕ) → bytes ++ left ≡ first ++ later
    → (more : List ℕ) × (drop (length first) bytes ++ more ≡ later)
rest-of [] later bytes left e = (left, e)
rest-of (x ∷ first) later [] left e = (later, refl)
rest-of (x ∷ first) later (y ∷ bytes) left e =
    let whole : y ∷ (bytes ++ left) ≡ x ∷ (first ++ later) = e in
    let rest : bytes ++ left ≡ first ++ later = cc in
    rest-of first later bytes left rest

pub logged-redraws : LoggedRedrawsAreShown
logged-redraws rows cols calls l n s t redraw pieces parsed a r reads =
    let x = logged-story rows cols calls l n s a in
    let u = x.story in
    let h = sessions-reported rows cols calls l.replies n u x.session in
    let run = run-redraws rows cols calls l.replies n t u redraw r x.session in
    let grown = run.1 in
    let all : s.pumped ++ h.left ≡ texts t.entries ++ texts grown.later =
    ap (λ (v : SessionView). v.pumped ++ h.left) (sym x.logged) ∙ h.prefix ∙ ap texts grown.entries
    ∙ texts-joined t.entries grown.later in
    let rest = rest-of (texts t.entries) (texts grown.later) s.pumped h.left all in
    let bytes = drop (length (texts t.entries)) s.pumped in
    let whole : ReadsPrefix (redraw ++ texts grown.later) pieces parsed = record {
      beyond = reads.beyond ++ rest.0;
      joined =
          sym (append_assoc (concat pieces) reads.beyond rest.0) ∙ ap (λ xs. xs ++ rest.0) reads.joined
          ∙ append_assoc redraw bytes rest.0 ∙ ap (λ xs. redraw ++ xs) rest.1;
      hold = reads.hold;
      leads = reads.leads;
    } in
    let from : ReadsRedraw rows cols u redraw t.entries grown.later pieces parsed = record {
      parts = grown.entries;
      made = ap (λ z. redraw_of z (base_after rows cols None t.entries)) grown.size ∙ run.0;
      reads = whole;
    } in (
      u,
      record { session = x.session; logged = x.logged },
      (
        grown.later,
        grown.entries,
        subst (λ (v : SessionView).
            IsShownRight rows cols (shown_of (seen (size_of_session v) parsed))
            (last_redrawn redraw t.entries grown.later pieces)) x.logged
            (redraw-shown rows cols calls l.replies n u redraw t.entries grown.later pieces parsed x.session from),
      ),
    )
