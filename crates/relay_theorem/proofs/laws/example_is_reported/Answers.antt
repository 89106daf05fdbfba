-- By computing.
use Rattle.std.proofs.Common.{ℕ, ◌+◌, List, [], ◌∷◌, codes, length, drop, min, Some, Ok, Err, refl, arith}
use Rattle.std.specs.declared.io.Error.{Error}
use lib.Utf8.{encode}
use Rattle.unicode_width.specs.Width.{char_width}
use Rattle.row_drawing.specs.Writer.{◌>>◌, skip, goto, turn, color, print, space, back, erasing, clearing, marking}
use Rattle.row_drawing.specs.RowWriter.{reprint, opening, to_erase, flush_of, flush, finish_of, finish, arrive}
use Rattle.row_drawing.specs.RowWriter.{mark_of, mark, draw, column, columns, unflag, print_last, mend, closing}
use Rattle.row_drawing.specs.RowWriter.{row_redraw, row_difference}
use Rattle.screen_drawing.specs.Rows.{next_row, in_turn}
use Rattle.screen_drawing.specs.Cursor.{wait_behind, wait_on_empty, wait, cursor_position_formatted}
use Rattle.screen_drawing.specs.Modes.{input_mode_formatted}
use Rattle.screen_drawing.specs.Screen.{cursor_placed, grid_redraw, grid_contents_formatted}
use Rattle.screen_drawing.specs.Screen.{contents_formatted, state_formatted}
use Rattle.vt100_core.specs.Resize.{resized}
use Rattle.vt100_core.specs.Scroll.{scrolled_up, fed, wrapped_on}
use Rattle.vt100_core.specs.Text.{printed}
use Rattle.termrelay.specs.Frame.{is_unsure, body_forms}
use Rattle.termrelay.specs.Answers.{ClientState, after_answer, same_shown}
use Rattle.termrelay.specs.Calls.{Feed, Resize, Attach, Frame, Pump, taken_by}
use Rattle.termrelay.specs.Hub.{HubState, size_in, shown_in, with_client, new_client, no_clients}
use Rattle.termrelay.specs.declared.answer.Answer.{Answer}
use Rattle.termrelay.specs.declared.answer.Answer.TheVariants.{Full, Unchanged, Behind}
use Rattle.termrelay.specs.declared.runs.call.Take.TheVariants.{Bytes, Fault}
use Rattle.termrelay.specs.declared.runs.call.Reply.TheVariants.{Done, Attached, Answered, Refused}
use Rattle.termrelay.specs.declared.error.HubError.TheVariants.{UnknownClient, Write}
use Rattle.byte_streams.specs.Pump.{some, all, fault}
use Rattle.screen_model.specs.Made.{Fed, Resized}
use Rattle.relay_theorem.specs.History.{as_reported, Story, fresh, stories_after}
use Rattle.relay_theorem.proofs.laws.example_is_reported.Goals as goal

-- the client of key 0, call by call
abbrev put : HubState as_reported → ClientState → HubState as_reported
put h c = record h { clients = with_client h.clients 0 (Some c) }

abbrev attached : HubState as_reported
attached = put (fresh 1 2) new_client

abbrev after_feed : HubState as_reported
after_feed = record attached { parser = record (attached.parser) { acts = Fed (codes "a") ∷ [] } }

abbrev asked : ClientState → Answer → ClientState
asked c answer = after_answer (size_in after_feed) (shown_in after_feed) c answer

abbrev pumped : ClientState → ℕ → ClientState
pumped c n = record c { owed = drop (min n (length c.owed) + 0) c.owed }

abbrev first : ClientState
first = asked new_client Full

abbrev second : ClientState
second = pumped first 10

abbrev third : ClientState
third = asked second Behind

abbrev fourth : ClientState
fourth = pumped third 37

abbrev fifth : ClientState
fifth = asked fourth Unchanged

abbrev due : HubState as_reported
due = put after_feed first

abbrev cut : HubState as_reported
cut = put due second

abbrev behind : HubState as_reported
behind = put cut third

abbrev sent : HubState as_reported
sent = put behind fourth

abbrev same : HubState as_reported
same = put sent fifth

abbrev after_resize : HubState as_reported
after_resize = record {
  parser = record (after_feed.parser) { acts = Fed (codes "a") ∷ Resized 1 2 ∷ [] };
  clients = no_clients;
}

abbrev reported : Error → List Story
reported e =
    stories_after same (Resize 1 2) Done
    (stories_after sent (Frame 0) (Answered Unchanged)
    (stories_after behind (Pump 0 []) Done
    (stories_after cut (Frame 0) (Answered Behind)
    (stories_after due (Pump 0 (Bytes 10 ∷ Fault ∷ [])) (Refused (Write e))
    (stories_after after_feed (Frame 0) (Answered Full)
    (stories_after attached (Feed (codes "a")) Done (stories_after (fresh 1 2) Attach (Attached 0) [])))))))

pub returns : goal.returns
unfolding ◌>>◌ skip goto turn color print space back erasing clearing marking reprint opening to_erase flush_of flush
    finish_of finish arrive mark_of mark draw column columns unflag print_last mend closing row_redraw row_difference
    char_width encode next_row in_turn wait_behind wait_on_empty wait cursor_position_formatted
    input_mode_formatted cursor_placed grid_redraw grid_contents_formatted contents_formatted state_formatted printed
    scrolled_up fed wrapped_on resized is_unsure body_forms same_shown taken_by
returns c e = record {
  hub = after_resize;
  stories = reported e;
  acts = refl;
  answers = refl;
  pumped = refl;
  torn = refl;
  whole = refl;
  runs = (
    attached,
    tt,
    (Ok 0, (refl, refl, (refl, refl)), refl),
    (
      after_feed,
      tt,
      (Ok tt, (refl, refl, refl, refl), refl),
      (
        due,
        tt,
        (Ok Full, ((refl, refl), (refl, refl)), refl),
        (
          cut,
          tt,
          (
            Err (Write e),
            [],
            (
              Err e,
              min 10 (length first.owed) + 0,
              some (Fault ∷ []) 10 0 (λ no. absurd (cc)) (omega arith) (refl, refl)
                  (fault (λ no. absurd (cc)) ((e, refl), refl)),
              refl,
              (refl, refl),
            ),
            refl,
          ),
          (
            behind,
            tt,
            (Ok Behind, ((refl, refl), (refl, refl)), refl),
            (
              sent,
              tt,
              (
                Ok tt,
                [],
                (
                  Ok tt,
                  min 37 (length third.owed) + 0,
                  some [] 37 0 (λ no. absurd (cc)) (omega arith) (refl, refl) all,
                  refl,
                  (refl, refl),
                ),
                refl,
              ),
              (
                same,
                tt,
                (Ok Unchanged, ((refl, refl), (refl, refl)), refl),
                (
                  after_resize,
                  ((omega arith, omega arith), (omega arith, omega arith)),
                  (Ok tt, (refl, refl, refl, refl), refl),
                  (after_resize, tt, (Err UnknownClient, (refl, refl), refl), (refl, refl)),
                ),
              ),
            ),
          ),
        ),
      ),
    ),
  );
}
