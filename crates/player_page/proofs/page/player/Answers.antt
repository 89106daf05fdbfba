use Rattle.std.proofs.Common.{◌≡◌, ◌∙◌, Err, inl, inr, refl, rules, subst, ℕ}
use Rattle.screen_model.specs.State.{State}
use Rattle.picture_page.specs.Page.{parts_bytes}
use Rattle.recorded_screen.specs.Moment.{acts_until}
use Rattle.recorded_screen.specs.Picture.{cells_shown}
use Rattle.player_page.specs.Moments.{ArePainted}
use Rattle.player_page.specs.Pages.{IsTooLong}
use Rattle.player_page.specs.Rows.{IsRowOf}
use Rattle.player_page.specs.declared.error.PlayerError.TheVariants.{Memory}
use Rattle.player_page.proofs.MomentLemmas.{fails_for}
use Rattle.player_page.proofs.PlayerLemmas.{begins, is_player}
use Rattle.player_page.proofs.RowsLemmas.{row_of_state, rows_after, rows_both, rows_shown, state_is}
use Rattle.player_page.proofs.page.player.Goals as goal

pub returns-clause-plays : goal.returns-clause-plays
returns-clause-plays c =
    let look = c.args.look.now in
    let size = c.args.size in
    let events = c.args.events.now in
    let play = c.args.play.now in
    let rows = c.in_ok-push_screen.ensures.rows in
    let state = state_is c.in_ok-poster.poster c.screen.result.now size.rows.value size.cols.value
    (acts_until play.poster events) c.screen.ensures c.in_ok-poster.ensures.shows in
    is_player look size events play c.in_ok-strip.strip c.new-page.result c.push_head.new.page c.push_size.new.page
    c.push_front.new.page c.push_screen.new.page c.push_markers.new.page c.into_bytes.result.items
    (parts_bytes c.in_ok-push_front.ensures.parts) rows.0 c.new-page.ensures c.in_ok-push_head.ensures.bytes
    c.in_ok-push_size.ensures.bytes c.in_ok-push_front.ensures.joined rows.2 c.in_ok-push_markers.ensures.bytes
    (c.into_bytes.ensures.bytes ∙ c.in_ok-push_strip.ensures.bytes)
    (subst (λ (s : State). ArePainted look s rows.0) state rows.1) c.in_ok-strip.ensures.strip

pub returns-in_err-check_length-clause-fault : goal.returns-in_err-check_length-clause-fault
returns-in_err-check_length-clause-fault c =
    let look = c.args.look.now in
    let size = c.args.size in
    let events = c.args.events.now in
    let play = c.args.play.now in
    let rows = c.in_ok-push_screen.ensures.rows in
    let state = state_is c.in_ok-poster.poster c.screen.result.now size.rows.value size.cols.value
    (acts_until play.poster events) c.screen.ensures c.in_ok-poster.ensures.shows in
    let page = is_player look size events play c.in_ok-strip.strip c.new-page.result c.push_head.new.page
    c.push_size.new.page c.push_front.new.page c.push_screen.new.page c.push_markers.new.page c.push_strip.new.page
    (parts_bytes c.in_ok-push_front.ensures.parts) rows.0 c.new-page.ensures c.in_ok-push_head.ensures.bytes
    c.in_ok-push_size.ensures.bytes c.in_ok-push_front.ensures.joined rows.2 c.in_ok-push_markers.ensures.bytes
    c.in_ok-push_strip.ensures.bytes (subst (λ (s : State). ArePainted look s rows.0) state rows.1)
    c.in_ok-strip.ensures.strip in
    let is : c.from_residual-in_err-check_length.result ≡ Err c.in_err-check_length.field-0.0 =
    search (rules, c.from_residual-in_err-check_length.ensures) in
    rw is (inr (
      c.in_err-check_length.ensures.long.0,
      IsTooLong.page c.push_strip.new.page page c.in_err-check_length.ensures.long.1,
    ))

pub returns-in_err-strip-clause-fault : goal.returns-in_err-strip-clause-fault
returns-in_err-strip-clause-fault c =
    let e = c.in_err-strip.field-0.0 in
    let is : c.from_residual.result ≡ Err e = search (rules, c.from_residual.ensures) in
    rw is (fails_for _ _ e IsTooLong.part c.in_err-strip.ensures.fault)

pub returns-clause-rows : goal.returns-clause-rows
returns-clause-rows c =
    let rows = c.args.size.rows.value in
    let cols = c.args.size.cols.value in
    let events = c.args.events.now in
    let state = state_is c.in_ok-poster.poster c.screen.result.now rows cols (acts_until c.args.play.now.poster events)
    c.screen.ensures c.in_ok-poster.ensures.shows in
    let are : (r : ℕ) → IsRowOf c.args.size.rows.value c.args.size.cols.value c.args.events.now
    (cells_shown c.screen.result.now.state.shown r) =
    λ r. inr (c.args.play.now.poster, row_of_state c.screen.result.now.state rows cols _ state r) in
    rows_shown rows cols events _ _ _ c.new-page.ensures c.into_bytes.ensures.bytes
    (rows_after rows cols events _ _ _ c.in_ok-push_head.ensures.adds
    (rows_after rows cols events _ _ _ c.in_ok-push_size.ensures.adds
    (rows_after rows cols events _ _ _ c.in_ok-push_front.ensures
    (rows_both rows cols events _ _ _ (c.in_ok-push_screen.ensures.text rows cols events are)
    (rows_after rows cols events _ _ _ c.in_ok-push_markers.ensures.adds
    (c.in_ok-push_strip.ensures.text rows cols events c.in_ok-strip.ensures.strip.drawn.text
    c.in_ok-strip.ensures.strip.adds))))))

pub returns-clause-head : goal.returns-clause-head
returns-clause-head c =
    begins c.args.look.now c.args.size c.args.events.now c.args.play.now c.into_bytes.result.items
    (returns-clause-plays c)

pub returns-in_err-push_head-clause-fault : goal.returns-in_err-push_head-clause-fault
returns-in_err-push_head-clause-fault c =
    let is : c.from_residual-in_err-push_head.result ≡ Err Memory =
    search (rules, c.from_residual-in_err-push_head.ensures) in
    rw is (inl refl)

pub returns-in_err-push_size-clause-fault : goal.returns-in_err-push_size-clause-fault
returns-in_err-push_size-clause-fault c =
    let is : c.from_residual-in_err-push_size.result ≡ Err Memory = search (rules, c.from_residual-in_err-push_size.ensures) in
    rw is (inl refl)

pub returns-in_err-push_front-clause-fault : goal.returns-in_err-push_front-clause-fault
returns-in_err-push_front-clause-fault c =
    let is : c.from_residual-in_err-push_front.result ≡ Err Memory = search (rules, c.from_residual-in_err-push_front.ensures) in
    rw is (inl refl)

pub returns-in_err-push_screen-clause-fault : goal.returns-in_err-push_screen-clause-fault
returns-in_err-push_screen-clause-fault c =
    let is : c.from_residual-in_err-push_screen.result ≡ Err Memory = search (rules, c.from_residual-in_err-push_screen.ensures) in
    rw is (inl refl)

pub returns-in_err-push_markers-clause-fault : goal.returns-in_err-push_markers-clause-fault
returns-in_err-push_markers-clause-fault c =
    let is : c.from_residual-in_err-push_markers.result ≡ Err Memory = search (rules, c.from_residual-in_err-push_markers.ensures) in
    rw is (inl refl)

pub returns-in_err-push_strip-clause-fault : goal.returns-in_err-push_strip-clause-fault
returns-in_err-push_strip-clause-fault c =
    let is : c.from_residual-in_err-push_strip.result ≡ Err Memory = search (rules, c.from_residual-in_err-push_strip.ensures) in
    rw is (inl refl)
