use Rattle.std.proofs.Common.{◌≡◌, List, ℕ, ◌++◌, ap, ◌∙◌, refl}
use Rattle.std.specs.Prelude.{string_bytes}
use Rattle.std.proofs.lemmas.Fmt.{contents_after_writes}
use Rattle.vt100_core.specs.Grid.{visible}
use Rattle.vt100_capture.specs.Capture.{captured, new_capture}
use Rattle.vt100.proofs.screen.Screen.contents_formatted_basic.Goals as goal

pub returns-in-Ok : goal.returns-in-Ok
returns-in-Ok c =
    let shown = captured new_capture (visible c.args.self.now.state.shown) in
    record {
      text = contents_after_writes (λ s bs t. string_bytes t ≡ string_bytes s ++ bs) string_bytes (λ w bs v h. h)
          c.new-contents.result shown c.write_contents_formatted_basic-written.new.writer c.in-Ok.ensures.text
          ∙ ap (λ (xs : List ℕ). xs ++ shown) c.new-contents.ensures.bytes;
      memory = tt;
      empty = λ none. refl;
    }
