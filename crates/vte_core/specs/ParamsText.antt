-- The text of parameters, as they are written in a control sequence.
use Rattle.std.specs.Prelude.{ℕ, List, ◌++◌, codes}
use Rattle.std.specs.List.{join_by}
use Rattle.std.specs.Fmt.{decimal}

-- the numbers of a group, joined by `:`
abbrev pub group_text : List ℕ → List ℕ
group_text group = join_by decimal (codes ":") group

-- groups, joined by `;`
abbrev pub groups_text : List (List ℕ) → List ℕ
groups_text groups = join_by group_text (codes ";") groups

-- the text in brackets
abbrev pub params_text : List (List ℕ) → List ℕ
params_text groups = codes "[" ++ (groups_text groups ++ codes "]")
