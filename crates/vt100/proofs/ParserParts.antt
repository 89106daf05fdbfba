-- A parser in memory is its screen and its callbacks in memory and the rest of it. With any screen and any callbacks
-- there, it is a parser again.
use base.Fml.{Fml, fex, fsep, ftrue}
use base.Fraction.{full_share}
use base.Logic.{SProp, all_e, emp, id⊢, ent, sep, wand, apply∗}
use denote.Laws.{Lawfuls}
use denote.Memory.{cell_raw, part_at, part_of, raw_all}
use denote.Param.{layout, number, param}
use denote.Param.Laws.{Laws, param_laws}
use denote.RattleType.{RattleType, Denots}
use denote.Struct.Field.{Field}
use denote.Struct.Loose.{lawfuls}
use denote.Struct.Members.{Member, rows_of, parts_at}
use denote.Struct.Parts.{PartsBack, Struct-parts, shape_of}
use denote.Struct.Struct.{Struct}
use mathlib.Core.List.{List, [], ◌∷◌}
use mathlib.Core.Path.{◌≡◌, refl, subst}
use mir.Syntax.{Sym}
use mir.Val.{Val}
use Prim.Native.Nat.{ℕ, ◌+◌, zero}
use prog.Memory.{align, size, up}
use seplogic.Ra.Ura.{Ura}
use types.Kit.{‵, ◌⊛◌, raw, ◌$◌, ◌∵◌, !, qed, move, split, fsplit, fsplit3, fjoin, fpick, fpack, use0, use1, use2, done}
use types.Kit.{keep, by}
use types.Logic.{Logic, sem}
use Rattle.vte_core.specs.contracts.parser.Parser as reader
use Rattle.screen_model.specs.Call.{ScreenView}
use Rattle.vt100.specs.Parsing.{ParserView}
use Rattle.vt100.specs.contracts.screen.Screen as screen
use Rattle.vt100.specs.contracts.screen.wrapped.WrappedScreen as wrapped
use Rattle.vt100.specs.contracts.parser.Parser as parser
use Rattle.vt100.specs.contracts.parser.Parser.TheInside as inside
use Rattle.vt100.specs.declared.parser.Parser.TheInside.{Inside}
use Rattle.vt100.specs.declared.screen.wrapped.WrappedScreen.{WrappedScreen}
use Rattle.vt100.proofs.screen.wrapped.WrappedScreen.TheLaws as wrapped_laws
use Rattle.vt100.proofs.parser.Parser.TheInside.TheLaws as inside_laws

module _ (C : RattleType) where
  abbrev pub callbacks_row : RattleType
  callbacks_row = param 0 C

  abbrev pub screen_row : RattleType
  screen_row = screen.the_row

  abbrev pub parser_row : RattleType
  parser_row = parser.the_row callbacks_row

  abbrev inside_row : RattleType
  inside_row = inside.the_row callbacks_row

  abbrev wrapped_row : RattleType
  wrapped_row = (wrapped.the_field callbacks_row).row

  abbrev reader_field : Field
  reader_field = reader.the_field (number 1024)

  abbrev reader_row : RattleType
  reader_row = reader_field.row

  abbrev wrapped_parts : List Member
  wrapped_parts =
      record { row = screen_row; ty = layout screen_row } ∷ record { row = callbacks_row; ty = layout C } ∷ []

  abbrev parser_parts : List Member
  parser_parts =
      record { row = reader_row; ty = layout reader_row } ∷ record { row = wrapped_row; ty = layout wrapped_row } ∷ []

  -- where the parts lie
  abbrev at_reader : ℕ → ℕ
  at_reader o = o + up (align (layout reader_row)) zero

  abbrev at_wrapped : ℕ → ℕ
  at_wrapped o = o + up (align (layout wrapped_row)) (up (align (layout reader_row)) zero + size (layout reader_row))

  abbrev pub at_screen : ℕ → ℕ
  at_screen o = at_wrapped o + up (align (layout screen_row)) zero

  abbrev pub at_callbacks : ℕ → ℕ
  at_callbacks o = at_wrapped o + up (align (layout C)) (up (align (layout screen_row)) zero + size (layout screen_row))

  abbrev of_wrapped : WrappedScreen C.Denot → wrapped_row.Denot
  of_wrapped = (wrapped.the_type callbacks_row).to

  abbrev of_inside : Inside C.Denot → Denots (rows_of parser_parts)
  of_inside = (inside.the_type callbacks_row).to

  -- the fields of a parser with another screen and other callbacks
  abbrev fields : ParserView C.Denot → ScreenView → C.Denot → Inside C.Denot
  fields x w v = record { parser = x.reader; screen = record { screen = w; callbacks = v } }

  -- the fields that a parser may have
  abbrev Shows : ParserView C.Denot → Type 0
  Shows x = (a : Inside C.Denot) × ((parser.the_view callbacks_row a ≡ x) × parser.the_invariant callbacks_row a)

  abbrev showing : List Val → (x : ParserView C.Denot) → Shows x → Fml
  showing vs x h = fsep (inside_row.own_val h.0 vs) ftrue

  abbrev cell : List Val → ℕ → ℕ → Fml
  cell vs b o = cell_raw full_share (raw_all inside_row.mir) vs b o

  module _ (L : Laws C) {M : Type 1} {𝓤 : Ura M} (𝓛 : Logic 𝓤) where
    parser_lawfuls : Lawfuls 𝓛 (rows_of parser_parts)
    parser_lawfuls =
        lawfuls 𝓛 (inside.the_type callbacks_row).parts (inside_laws.the_loose callbacks_row (param_laws 0 C L))

    wrapped_lawfuls : Lawfuls 𝓛 (rows_of wrapped_parts)
    wrapped_lawfuls =
        lawfuls 𝓛 (wrapped.the_type callbacks_row).parts (wrapped_laws.the_loose callbacks_row (param_laws 0 C L))

    abbrev parser_back : ℕ → ℕ → SProp 𝓤
    parser_back b o = PartsBack 𝓛 full_share (inside.struct callbacks_row).name parser_parts b o

    abbrev wrapped_back : ℕ → ℕ → SProp 𝓤
    wrapped_back b o = PartsBack 𝓛 full_share (wrapped.struct callbacks_row).name wrapped_parts b (at_wrapped o)

    -- what is left of a parser besides its screen and its callbacks
    abbrev pub Left : ParserView C.Denot → ℕ → ℕ → SProp 𝓤
    Left x b o = sep 𝓤 (sem 𝓛 (part_at reader_row full_share (reader_field.into x.reader) b (at_reader o)))
        (sep 𝓤 (parser_back b o) (wrapped_back b o))

    abbrev Parted : ParserView C.Denot → ScreenView → C.Denot → ℕ → ℕ → SProp 𝓤
    Parted x w v b o = sep 𝓤 (sem 𝓛 (part_at screen_row full_share w b (at_screen o)))
        (sep 𝓤 (sem 𝓛 (part_at callbacks_row full_share v b (at_callbacks o))) (Left x b o))

    cut_inside : (a : Inside C.Denot) (b o : ℕ) → ent 𝓤 (sem 𝓛 (part_at inside_row full_share a b o))
        (sep 𝓤 (sem 𝓛 (parts_at full_share parser_parts zero (of_inside a) b o)) (parser_back b o))
    unfolding part_of
    cut_inside a b o =
        Struct-parts 𝓛 full_share (inside.struct callbacks_row).name parser_parts parser_lawfuls (of_inside a) b o

    cut_wrapped : (a : WrappedScreen C.Denot) (b o : ℕ)
        → ent 𝓤 (sem 𝓛 (part_at wrapped_row full_share (of_wrapped a) b (at_wrapped o)))
        (sep 𝓤 (sem 𝓛 (parts_at full_share wrapped_parts zero (of_wrapped a) b (at_wrapped o))) (wrapped_back b o))
    cut_wrapped a b o = Struct-parts 𝓛 full_share (wrapped.struct callbacks_row).name wrapped_parts wrapped_lawfuls
        (of_wrapped a) b (at_wrapped o)

    cut_fields : (a : Inside C.Denot) (b o : ℕ) → ent 𝓤 (sem 𝓛 (part_at inside_row full_share a b o))
        (Parted (parser.the_view callbacks_row a) a.screen.screen a.screen.callbacks b o)
    cut_fields a b o =
        qed 𝓛 (‵ (part_at inside_row full_share a b o) ∷ []) ∵
        use1 𝓛 (‵ (parts_at full_share parser_parts zero (of_inside a) b o) ⊛ raw (parser_back b o))
        (cut_inside a b o) $ split ! $ fsplit3 ! $ move ! (1 ∷ []) $
        use1 𝓛
        (‵ (parts_at full_share wrapped_parts zero (of_wrapped a.screen) b (at_wrapped o)) ⊛ raw (wrapped_back b o))
        (cut_wrapped a.screen b o) $ split ! $ fsplit3 ! $ keep ! (0 ∷ 1 ∷ 4 ∷ 6 ∷ 3 ∷ []) $ done !

    pub cut : (x : ParserView C.Denot) (b o : ℕ) → ent 𝓤 (sem 𝓛 (part_at parser_row full_share x b o))
        (Parted x x.screen x.callbacks b o)
    unfolding part_of
    cut x b o =
        qed 𝓛 (‵ (part_at parser_row full_share x b o) ∷ []) ∵ fpick ! (λ vs. fsplit ! $ move ! (1 ∷ []) $
        fpick ! (λ (h : Shows x). fsplit ! $ keep ! (2 ∷ 0 ∷ []) $ fjoin ! $
        fpack ! (List Val) (λ us. fsep (cell us b o) (inside_row.own_val h.0 us)) vs $
        by ! (subst (λ (y : ParserView C.Denot). ent 𝓤 (sem 𝓛 (part_at inside_row full_share h.0 b o))
        (Parted y y.screen y.callbacks b o)) h.1.0 (cut_fields h.0 b o))))

    parts_back : (ν : Sym) (ms : List Member) (t : Denots (rows_of ms)) (b o : ℕ)
        → ent 𝓤 (sep 𝓤 (sem 𝓛 (parts_at full_share ms zero t b o)) (PartsBack 𝓛 full_share ν ms b o))
        (sem 𝓛 (part_at (Struct (shape_of ν ms)) full_share t b o))
    parts_back ν ms t b o =
        let P = λ (u : Denots (rows_of ms)). sem 𝓛 (parts_at full_share ms zero u b o) in
        let Q = λ (u : Denots (rows_of ms)). sem 𝓛 (part_at (Struct (shape_of ν ms)) full_share u b o) in
        qed 𝓛 (‵ (parts_at full_share ms zero t b o) ∷ raw (PartsBack 𝓛 full_share ν ms b o) ∷ []) ∵ move ! (1 ∷ []) $
        use1 𝓛 (raw (wand 𝓤 (P t) (Q t))) (all_e 𝓤 (λ (u : Denots (rows_of ms)). wand 𝓤 (P u) (Q u)) t) $
        move ! (1 ∷ 0 ∷ []) $ by ! (apply∗ 𝓤 (P t) (Q t))

    back_fields : (x : ParserView C.Denot) (w : ScreenView) (v : C.Denot) (b o : ℕ) → ent 𝓤 (Parted x w v b o)
        (sem 𝓛 (part_at inside_row full_share (fields x w v) b o))
    unfolding part_of
    back_fields x w v b o =
        let wrap = of_wrapped (record { screen = w; callbacks = v }) in
        qed 𝓛 (‵ (part_at screen_row full_share w b (at_screen o))
        ∷ ‵ (part_at callbacks_row full_share v b (at_callbacks o))
        ∷ ‵ (part_at reader_row full_share (reader_field.into x.reader) b (at_reader o))
        ∷ raw (parser_back b o) ∷ raw (wrapped_back b o) ∷ []) ∵
        use0 𝓛 (‵ ftrue) (id⊢ 𝓤 (emp 𝓤)) $ move ! (2 ∷ 0 ∷ []) $ fjoin ! $ move ! (1 ∷ 0 ∷ []) $ fjoin ! $
        -- [the wrapped screen's parts; the reader; the two ways back]
        move ! (0 ∷ 3 ∷ []) $ use2 𝓛 (‵ (part_at wrapped_row full_share wrap b (at_wrapped o)))
        (parts_back (wrapped.struct callbacks_row).name wrapped_parts wrap b (at_wrapped o)) $
        use0 𝓛 (‵ ftrue) (id⊢ 𝓤 (emp 𝓤)) $ move ! (1 ∷ 0 ∷ []) $ fjoin ! $ move ! (1 ∷ 0 ∷ []) $ fjoin ! $
        by ! (parts_back (inside.struct callbacks_row).name parser_parts (of_inside (fields x w v)) b o)

    pub back : (x : ParserView C.Denot) (w : ScreenView) (v : C.Denot) (b o : ℕ) → ent 𝓤 (Parted x w v b o)
        (sem 𝓛 (part_at parser_row full_share (record x { screen = w; callbacks = v }) b o))
    unfolding part_of
    back x w v b o =
        let y : ParserView C.Denot = record x { screen = w; callbacks = v } in
        qed 𝓛 (raw (Parted x w v b o) ∷ []) ∵
        use1 𝓛 (‵ (part_at inside_row full_share (fields x w v) b o)) (back_fields x w v b o) $
        fpick ! (λ vs. fsplit ! $ move ! (1 ∷ []) $ use0 𝓛 (‵ ftrue) (id⊢ 𝓤 (emp 𝓤)) $ move ! (1 ∷ 0 ∷ []) $ fjoin ! $
        fpack ! (Shows y) (showing vs y) (fields x w v, (refl, tt)) $ move ! (1 ∷ 0 ∷ []) $ fjoin ! $
        fpack ! (List Val) (λ us. fsep (cell us b o) (fex (Shows y) (showing us y))) vs $ done !)
