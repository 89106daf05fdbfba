-- How an SGR sequence is read, group by group.
use Rattle.std.specs.Prelude.{ℕ, List, ◌∷◌, map}
use Rattle.vte_types.specs.Call.{Call, Calls, terminal_attribute}
use Rattle.vte.specs.Sgr.{attributes, nothing}

-- The next group g has been read, and maybe some of the groups gs after it, up to gs'. This took the handler from h to
-- h'. What the groups that are left do from there is what all do from the start.
abbrev pub SetsFirst : {H : Type 0} → (H → Call → H → Type 0) → List ℕ → H → List (List ℕ) → H → List (List ℕ) → Type 0
SetsFirst {H} step g h gs h' gs' =
    (end : H) → Calls step h' (map terminal_attribute (attributes nothing gs')) end
    → Calls step h (map terminal_attribute (attributes nothing (g ∷ gs))) end
