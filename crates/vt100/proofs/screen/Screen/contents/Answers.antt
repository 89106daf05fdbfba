use Rattle.std.proofs.Common.{◌<◌, ◌++◌, length, ap, arith, rules}
use Rattle.std.specs.Prelude.{encode_utf8_all, string_bytes, string_capacity}
use Rattle.vt100_core.specs.Contents.{newlines_cut, text_lines}
use Rattle.vt100.proofs.screen.Screen.contents.Goals as goal

pub returns-in_err-write_contents : goal.returns-in_err-write_contents
returns-in_err-write_contents c =
    let g = c.args.self.now.state.shown in
    let text = encode_utf8_all (text_lines g (length g.rows)) in
    record {
      text = search rules;
      memory = search rules;
      empty = λ none. let full : string_capacity c.new-contents.result < length (newlines_cut
          (string_bytes c.new-contents.result ++ text)) = rw (← c.self.view_is) c.in_err-write_contents.ensures.full in
          absurd (omega (
            arith,
            full,
            ap (λ bs. length (newlines_cut (bs ++ text))) c.new-contents.ensures.bytes,
            ap length none,
          ));
    }
