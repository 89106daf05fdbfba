-- The names of the pointer's shapes.
use Rattle.std.specs.Prelude.{ℕ, List, [], ◌∷◌, codes}
use Rattle.vte_types.specs.declared.cursor_icon.CursorIcon.{CursorIcon}
use Rattle.vte_types.specs.declared.cursor_icon.CursorIcon.TheVariants as c

-- the keyword of CSS
abbrev pub name_of : CursorIcon → List ℕ
name_of c.Default = codes "default"
name_of c.ContextMenu = codes "context-menu"
name_of c.Help = codes "help"
name_of c.Pointer = codes "pointer"
name_of c.Progress = codes "progress"
name_of c.Wait = codes "wait"
name_of c.Cell = codes "cell"
name_of c.Crosshair = codes "crosshair"
name_of c.Text = codes "text"
name_of c.VerticalText = codes "vertical-text"
name_of c.Alias = codes "alias"
name_of c.Copy = codes "copy"
name_of c.Move = codes "move"
name_of c.NoDrop = codes "no-drop"
name_of c.NotAllowed = codes "not-allowed"
name_of c.Grab = codes "grab"
name_of c.Grabbing = codes "grabbing"
name_of c.EResize = codes "e-resize"
name_of c.NResize = codes "n-resize"
name_of c.NeResize = codes "ne-resize"
name_of c.NwResize = codes "nw-resize"
name_of c.SResize = codes "s-resize"
name_of c.SeResize = codes "se-resize"
name_of c.SwResize = codes "sw-resize"
name_of c.WResize = codes "w-resize"
name_of c.EwResize = codes "ew-resize"
name_of c.NsResize = codes "ns-resize"
name_of c.NeswResize = codes "nesw-resize"
name_of c.NwseResize = codes "nwse-resize"
name_of c.ColResize = codes "col-resize"
name_of c.RowResize = codes "row-resize"
name_of c.AllScroll = codes "all-scroll"
name_of c.ZoomIn = codes "zoom-in"
name_of c.ZoomOut = codes "zoom-out"

abbrev pub all_icons : List CursorIcon
all_icons =
    c.Default ∷ c.ContextMenu ∷ c.Help ∷ c.Pointer ∷ c.Progress ∷ c.Wait
    ∷ c.Cell ∷ c.Crosshair ∷ c.Text ∷ c.VerticalText ∷ c.Alias ∷ c.Copy
    ∷ c.Move ∷ c.NoDrop ∷ c.NotAllowed ∷ c.Grab ∷ c.Grabbing ∷ c.EResize
    ∷ c.NResize ∷ c.NeResize ∷ c.NwResize ∷ c.SResize ∷ c.SeResize ∷ c.SwResize
    ∷ c.WResize ∷ c.EwResize ∷ c.NsResize ∷ c.NeswResize ∷ c.NwseResize ∷ c.ColResize
    ∷ c.RowResize ∷ c.AllScroll ∷ c.ZoomIn ∷ c.ZoomOut ∷ []
