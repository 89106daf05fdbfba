use Rattle.std.proofs.Common.{◌≡◌, ◌∙◌, ℕ, ◌*◌, ◌≤◌, ◌==◌, [], false, Option, Some, Ok, ap, sym, refl}
use Rattle.std.proofs.Common.{subst, if◌then◌else◌, arith}
use Rattle.std.proofs.lemmas.Bool.Decides.{nat_tests}
use Rattle.std.specs.Option.{option_map, option_copied}
use Rattle.slab.specs.Slab.{Slab, get, with_value}
use Rattle.vt100_core.specs.Picture.{grid_size}
use Rattle.screen_model.specs.Call.{ScreenView}
use Rattle.screen_model.specs.Shown.{shown_state}
use Rattle.vt100.specs.Parsing.{ParserView}
use Rattle.vt100.specs.WriterLaws.{IsUnscrolled}
use Rattle.termrelay.specs.declared.answer.Answer.{Answer}
use Rattle.termrelay.specs.declared.answer.Answer.TheVariants.{Difference, TooLong}
use Rattle.termrelay.specs.Frame.{frame_text}
use Rattle.termrelay.specs.Answers.{ClientState, is_frame, due, unless_too_long, answer_for}
use Rattle.termrelay.specs.ClientRecord.{FrameView, RecordView, base_of, shown_at_last, client_of, IsRecordOf}
use Rattle.termrelay.specs.Due.{IsDueFrame, given_by}
use Rattle.termrelay.specs.Hub.{clients_in, Puts, Frames, OwesLocalFrame}
use Rattle.termrelay.proofs.MadeLemmas.{made-unscrolled}
use Rattle.termrelay.proofs.AnswerLemmas.{answer-ready, capped-short, never-due, text-long, text-fits}
use Rattle.termrelay.proofs.HubLemmas.{holding, put-client, found-served, served-base, hub-asked, hub-framed}
use Rattle.termrelay.proofs.ScriptLemmas.{put-there}
use Rattle.termrelay.proofs.LocalFrames.{due-short, due-local}
use Rattle.termrelay.proofs.hub.Hub.frame.Goals as goal
use Rattle.termrelay.proofs.hub.Hub.frame.Goals.{After-due}

-- the client that was asked for, without pending bytes, while the program is in no synchronized update
record Asked (p : ParserView (Unit {0})) (s : Slab RecordView) (key : ℕ) (r : RecordView) : Type 0 where
  found : get s key ≡ Some r
  live : p.screen.failed ≡ false
  unscrolled : IsUnscrolled p.screen.state
  served : IsRecordOf p.screen r
  none : r.owed ≡ []
  ready : p.screen.state.updating ≡ false

kept-at : (clients : ℕ → Option ClientState) (key other : ℕ) (slot : Option ClientState) → clients key ≡ slot
    → clients other ≡ (if other == key then slot else clients other)
kept-at clients key other slot is = grind (arith, nat_tests)

module _ {p : ParserView (Unit {0})} {s : Slab RecordView} {key : ℕ} {r : RecordView} (a : Asked p s key r) where
  answered : answer_for p.screen.state (client_of r)
      ≡ unless_too_long (grid_size p.screen.state.shown) (shown_state p.screen.state) (shown_at_last r.last)
      (due (grid_size p.screen.state.shown) (shown_state p.screen.state) (shown_at_last r.last))
  answered = answer-ready p.screen.state (shown_at_last r.last) r.owed a.none a.ready

  -- ---- where nothing changes

  unframed : (answer : Answer) → is_frame answer ≡ false
      → answer ≡ unless_too_long (grid_size p.screen.state.shown) (shown_state p.screen.state) (shown_at_last r.last)
      (due (grid_size p.screen.state.shown) (shown_state p.screen.state) (shown_at_last r.last))
      → Frames (holding p s) key (Ok answer) (holding p s)
  unframed answer none is = rw a.found (
    (a.live, is ∙ sym answered),
    rw none (
      refl,
      λ i other.
          kept-at (clients_in (holding p s)) key other _ (ap (option_map client_of) a.found) i,
    ),
  )

  small : (answer : Answer)
      → answer ≡ unless_too_long (grid_size p.screen.state.shown) (shown_state p.screen.state) (shown_at_last r.last)
      (due (grid_size p.screen.state.shown) (shown_state p.screen.state) (shown_at_last r.last))
      → (grid_size p.screen.state.shown).rows * (grid_size p.screen.state.shown).cols ≤ 2000 → answer ≡ TooLong → ⊥
  small answer is few e =
      let z = grid_size p.screen.state.shown in
      let now = shown_state p.screen.state in
      let base = shown_at_last r.last in
      let text = frame_text z base now in
      let short = due-short p.screen r text a.unscrolled a.served refl in
      let fits = text-fits z base now text refl short few in
      never-due z now base (sym (capped-short z now base (due z now base) fits) ∙ sym is ∙ e)

  -- ---- where a frame becomes pending

  module _ {f : FrameView} (d : IsDueFrame p.screen r.last f) where
    put : Puts (holding p s) key (Some (record { owed = f.text; base = Some (shown_state p.screen.state) }))
        (holding p (with_value s key (record { owed = f.text; last = Some f })))
    put =
        let new : RecordView = record { owed = f.text; last = Some f } in
        subst (λ (c : ClientState). Puts (holding p s) key (Some c) (holding p (with_value s key new)))
        (λ i. record { owed = f.text; base = Some (d.shown i) }) (put-client p s key r new a.found)

    is-answered : f.answer ≡ answer_for p.screen.state (client_of r)
    is-answered =
        let z = grid_size p.screen.state.shown in
        let now = shown_state p.screen.state in
        let base = shown_at_last r.last in
        let short = text-long z base now f.text f.text false d.text refl (sym d.frame.fits) in
        d.answer ∙ sym (capped-short z now base (due z now base) short) ∙ sym answered

    frames : (t : Slab RecordView) → t ≡ with_value s key (record { owed = f.text; last = Some f })
        → Frames (holding p s) key (Ok f.answer) (holding p t)
    frames t is =
        let text : ClientState = record { owed = f.text; base = Some (shown_state p.screen.state) } in
        let led : text ≡ record {
          owed = frame_text (grid_size p.screen.state.shown) (shown_at_last r.last) (shown_state p.screen.state);
          base = Some (shown_state p.screen.state);
        } = (λ i. record { owed = d.text i; base = Some (shown_state p.screen.state) }) in
        let there = subst (λ (u : Slab RecordView). Puts (holding p s) key (Some text) (holding p u)) (sym is) put in
        let owes = subst (λ (c : ClientState). Puts (holding p s) key (Some c) (holding p t)) led there in
        rw a.found ((a.live, is-answered), rw (d.frame.brings, a.none) owes)

    local : (t : Slab RecordView) → t ≡ with_value s key (record { owed = f.text; last = Some f })
        → f.answer ≡ Difference → OwesLocalFrame (holding p s) key (holding p t)
    local t is e =
        let text : ClientState = record { owed = f.text; base = Some (shown_state p.screen.state) } in
        let there = subst (λ (u : Slab RecordView). Puts (holding p s) key (Some text) (holding p u)) (sym is) put in
        let l = due-local p.screen (base_of r.last) f.text a.unscrolled (served-base p.screen r.last a.served.last)
        (sym d.answer ∙ e) d.text in
        record {
          base = l.shown;
          text = f.text;
          was = ap (option_map client_of) a.found ∙ (λ i. Some (record { owed = a.none i; base = l.is i }));
          is = put-there (holding p s) (holding p t) key (Some text) there;
          local = l.local;
        }

-- ---- what is known on the way

asked : (c : After-due) → Asked c.self.inside.parser c.self.inside.clients c.args.client c.in-Some.record.now
asked c =
    let p = c.self.inside.parser in
    let s = c.self.inside.clients in
    let r = c.in-Some.record.now in
    let is_screen = c.screen-screen.ensures in
    let live : p.screen.failed ≡ false =
    ap (λ (v : ScreenView). v.failed) (sym is_screen) ∙ sym c.failed.ensures ∙ c.if-failed.false in
    let found : get s c.key.result ≡ Some r = sym c.get.ensures ∙ ap option_copied c.in-Some.is in
    let waits : (r.owed ≡ []) × (c.screen-screen.result.now.state.updating ≡ false) = c.in_default-waits.ensures in
    record {
      found = ap (get s) (sym c.key.ensures) ∙ found;
      live = live;
      unscrolled = made-unscrolled p (c.self.invariant.made live);
      served = found-served s c.key.result r p.screen found (c.self.invariant.served live);
      none = waits.0;
      ready = ap (λ (v : ScreenView). v.state.updating) (sym is_screen) ∙ waits.1;
    }

pub due-requires-clause-unscrolled : goal.due-requires-clause-unscrolled
due-requires-clause-unscrolled c =
    let p = c.self.inside.parser in
    let live : p.screen.failed ≡ false =
    ap (λ (v : ScreenView). v.failed) (sym c.screen-screen.ensures) ∙ sym c.failed.ensures ∙ c.if-failed.false in
    rw c.screen-screen.ensures (made-unscrolled p (c.self.invariant.made live))

-- ---- no frame is due

pub invariant_of-self : goal.invariant_of-self
invariant_of-self c =
    let a = asked (goal.at.invariant_of-self c).After-due in
    hub-asked c.self.inside c.due.new.self c.args.client c.in-Some.record.now (given_by c.due.result) c.self.invariant
    a.found (rw c.screen-screen.ensures at c.due.ensures.latest) (rw c.screen-screen.ensures at c.due.ensures.numbers)

pub invariant_of-self-in-Without : goal.invariant_of-self-in-Without
invariant_of-self-in-Without c =
    let a = asked (goal.at.invariant_of-self-in-Without c).After-due in
    hub-asked c.self.inside c.due.new.self c.args.client c.in-Some.record.now (given_by c.due.result) c.self.invariant
    a.found (rw c.screen-screen.ensures at c.due.ensures.latest) (rw c.screen-screen.ensures at c.due.ensures.numbers)

pub returns-in-Without-clause-frames : goal.returns-in-Without-clause-frames
returns-in-Without-clause-frames c =
    let a = asked (goal.at.returns-in-Without-clause-frames c).After-due in
    let d = rw (c.in-Without.is, c.screen-screen.ensures) at c.in_ok-frame.ensures.due in
    rw (← c.self.view_is) (unframed a c.in-Without.answer d.0 d.1)

pub returns-in-Without-clause-small : goal.returns-in-Without-clause-small
returns-in-Without-clause-small c few e =
    let a = asked (goal.at.returns-in-Without-clause-small c).After-due in
    let d = rw (c.in-Without.is, c.screen-screen.ensures) at c.in_ok-frame.ensures.due in
    let p = c.self.inside.parser in
    let cells : (grid_size p.screen.state.shown).rows * (grid_size p.screen.state.shown).cols ≤ 2000 =
    rw (← c.self.view_is) at few in
    small a c.in-Without.answer d.1 cells e

-- ---- a frame becomes pending

pub invariant_of-self-in-Frame : goal.invariant_of-self-in-Frame
invariant_of-self-in-Frame c =
    let a = asked (goal.at.invariant_of-self-in-Frame c).After-due in
    let d : IsDueFrame c.self.inside.parser.screen c.in-Some.record.now.last c.in-Frame.frame.value =
    rw (c.in-Frame.is, c.screen-screen.ensures) at c.in_ok-frame.ensures.due in
    rw (c.owe.ensures, c.reuse.ensures)
    (hub-framed c.self.inside c.due.new.self c.args.client c.in-Some.record.now c.in-Frame.frame.value c.self.invariant
    a.found (rw c.screen-screen.ensures at c.due.ensures.latest)
    (rw (c.in-Frame.is, c.screen-screen.ensures) at c.in_ok-frame.ensures.numbers) d.frame)

pub returns-in-Frame-clause-frames : goal.returns-in-Frame-clause-frames
returns-in-Frame-clause-frames c =
    let a = asked (goal.at.returns-in-Frame-clause-frames c).After-due in
    let d : IsDueFrame c.self.inside.parser.screen c.in-Some.record.now.last c.in-Frame.frame.value =
    rw (c.in-Frame.is, c.screen-screen.ensures) at c.in_ok-frame.ensures.due in
    let answer : c.answer-answer.result ≡ c.in-Frame.frame.value.answer =
    c.answer-answer.ensures ∙ ap (λ (f : FrameView). f.answer) c.deref.ensures in
    rw (← c.self.view_is, answer) (frames a d c.owe.new.clients c.owe.ensures)

pub returns-in-Frame-clause-local : goal.returns-in-Frame-clause-local
returns-in-Frame-clause-local c e =
    let a = asked (goal.at.returns-in-Frame-clause-local c).After-due in
    let d : IsDueFrame c.self.inside.parser.screen c.in-Some.record.now.last c.in-Frame.frame.value =
    rw (c.in-Frame.is, c.screen-screen.ensures) at c.in_ok-frame.ensures.due in
    let answer : c.answer-answer.result ≡ c.in-Frame.frame.value.answer =
    c.answer-answer.ensures ∙ ap (λ (f : FrameView). f.answer) c.deref.ensures in
    rw (← c.self.view_is) (local a d c.owe.new.clients c.owe.ensures (sym answer ∙ e))
