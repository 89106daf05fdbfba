use Rattle.std.proofs.Common.{◌≡◌, ◌∙◌, refl, Err, List, false, None, Some, map, ap, sym, subst, arith}
use Rattle.std.specs.List.{list_any, slice_get}
use Rattle.std.proofs.lemmas.Result.{err_from_is_err_and}
use Rattle.std.proofs.lemmas.Option.{slice_get_past, slice_get-get_or}
use Rattle.termrelay.specs.Calls.{call_of}
use Rattle.termrelay.specs.Log.{LogView, SessionView, MadeAll, empty_log}
use Rattle.termrelay.specs.declared.runs.call.Reply.{Reply}
use Rattle.relay_theorem.specs.Isolation.{is_out_of_memory}
use Rattle.relay_streams.specs.declared.error.RelayError.TheVariants.{Memory}
use Rattle.relay_streams.proofs.FarLemmas.{none-found, one-found, run-refused, same-error, shows-judged}
use Rattle.relay_streams.proofs.far.far_view.Goals as goal

pub returns-clause-view : goal.returns-clause-view
returns-clause-view c =
    let m = c.run.new.log in
    let h = c.in_ok-hub.hub in
    let g = c.run.new.hub in
    let calls = map call_of c.args.calls.now in
    let ran : MadeAll h empty_log calls g m =
    subst (λ (l : LogView). MadeAll h l calls g m) c.new-log.ensures c.in_ok-run.ensures in
    let fed : list_any is_out_of_memory m.replies ≡ false =
    ap (λ (rs : List Reply). list_any is_out_of_memory rs) (sym c.replies.ensures)
    ∙ sym c.ran_out_of_memory.ensures ∙ c.if-ran_out_of_memory.false in
    let is : slice_get m.sessions c.args.session ≡ None =
    ap (λ (xs : List SessionView). slice_get xs c.args.session) (sym c.sessions.ensures)
    ∙ slice_get_past c.sessions.result.now c.args.session c.in-None.ensures.lookup.3 in
    none-found c.args.rows.value c.args.cols.value calls h g m c.in_ok-hub.ensures.new ran fed c.args.session
    c.args.take c.args.cuts.now is

pub returns-in-Some : goal.returns-in-Some
returns-in-Some c =
    let m = c.run.new.log in
    let h = c.in_ok-hub.hub in
    let g = c.run.new.hub in
    let calls = map call_of c.args.calls.now in
    let s = c.in-Some.session.now in
    let v = c.in_ok-view_session-in-Some.field-0 in
    let ran : MadeAll h empty_log calls g m =
    subst (λ (l : LogView). MadeAll h l calls g m) c.new-log.ensures c.in_ok-run.ensures in
    let fed : list_any is_out_of_memory m.replies ≡ false =
    ap (λ (rs : List Reply). list_any is_out_of_memory rs) (sym c.replies.ensures)
    ∙ sym c.ran_out_of_memory.ensures ∙ c.if-ran_out_of_memory.false in
    let lookup = c.in-Some.ensures.lookup in
    let is : slice_get m.sessions c.args.session ≡ Some s =
    ap (λ (xs : List SessionView). slice_get xs c.args.session) (sym c.sessions.ensures)
    ∙ slice_get-get_or c.sessions.result.now c.args.session s lookup.3.0 ∙ ap (λ (x : SessionView). Some x)
    (sym lookup.1) in
    let rows = c.args.rows.value in
    let cols = c.args.cols.value in
    let found = one-found rows cols calls h g m c.in_ok-hub.ensures.new ran fed c.args.session c.args.take
    c.args.cuts.now s v is c.in_ok-view_session-in-Some.ensures.reads in
    record {
      view = found;
      shows = shows-judged rows cols calls c.args.session c.args.take c.args.cuts.now v (c.args.rows.ok, omega arith)
          (c.args.cols.ok, omega arith) found;
      memory = tt;
    }

pub returns-in_err-run-clause-memory : goal.returns-in_err-run-clause-memory
returns-in_err-run-clause-memory c =
    let none = run-refused _ _ _ _ _ c.in_err-run.field-0.0 c.in_err-run.ensures in
    let p = err_from_is_err_and c.from_residual-in_err-run.result c.from_residual-in_err-run.ensures.1 in
    let is : c.from_residual-in_err-run.result ≡ Err Memory = p.1 ∙ ap Err (p.2 ∙ none) in
    rw is refl

pub returns-in_err-view_session-in-Some-clause-memory : goal.returns-in_err-view_session-in-Some-clause-memory
returns-in_err-view_session-in-Some-clause-memory c =
    let e = c.in_err-view_session-in-Some.field-0.0 in
    let p = err_from_is_err_and c.from_residual-in_err-view_session-in-Some.result
    c.from_residual-in_err-view_session-in-Some.ensures.1 in
    let is : c.from_residual-in_err-view_session-in-Some.result ≡ Err Memory =
    same-error e Memory _ _ refl c.in_err-view_session-in-Some.ensures.memory (p.1 ∙ ap Err p.2) in
    rw is refl
