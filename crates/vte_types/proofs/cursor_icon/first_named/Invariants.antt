use Rattle.std.proofs.Common.{◌≡◌, bytes_eq, find, drop}
use Rattle.vte_types.specs.CursorIcon.{name_of}
use Rattle.vte_types.proofs.cursor_icon.first_named.Given as goal

-- the first one with the name is among the remaining ones
abbrev pub invariant-loop-icon : goal.invariant-loop-icon
invariant-loop-icon l = find (λ x. bytes_eq (name_of x) l.name) (drop l.icon-index l.icons)
    ≡ find (λ x. bytes_eq (name_of x) l.name) l.icons
