-- What a view shows of the bytes of forms.
use Rattle.std.proofs.Common.{◌≡◌, List, [], ◌∷◌, refl, ◌∙◌}
use Rattle.vte_types.specs.Call.{Call}
use Rattle.vte.specs.Stretch.{last_of, calls_from}
use Rattle.vt100_forms.specs.Form.{bytes_of}
use Rattle.terminal_model.specs.Term.{Size, Term}
use Rattle.forms_read.proofs.ReadForms.{list-read}
use Rattle.forms_read.proofs.SentTexts.{forms-readable}
use Rattle.forms_read.specs.Terminals.{stepped}
use Rattle.forms_read.proofs.Stepping.{written_form_is_stepped}
use Rattle.termview.specs.Step.{view_step, view_steps, with_attr}
use Rattle.termview.specs.Seen.{seen}
use Rattle.termview.specs.Laws.{EachWrittenFormIsShown}
use Rattle.termview.proofs.CallSteps.{seen-append}
use Rattle.termview.proofs.KeptTerms.{streams-show}
use Rattle.termview.proofs.ViewReads.{attributes-read, calls-read}

as-stepped : (z : Size) (cs : List Call) (t : Term) → view_steps z cs t ≡ stepped view_step z cs t
as-stepped z [] t = refl
as-stepped z (c ∷ cs) t = as-stepped z cs (view_step z c t)

pub written_form-shown : EachWrittenFormIsShown
written_form-shown z past fs some_row some_col small g k =
    let t = seen z past in (
      seen-append z past (bytes_of fs)
          ∙ as-stepped z (calls_from past (bytes_of fs)) t
          ∙ written_form_is_stepped view_step with_attr z (calls-read z) attributes-read small 1024 past (last_of past)
          fs t
          g (streams-show z past some_row some_col) k,
      (list-read 1024 past fs g (forms-readable fs k)).1,
    )
