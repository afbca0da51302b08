-- Lists that are cut into rows, and the trees of rows.
use Rattle.std.proofs.Common.{arith, refl, sym, ap, ◌∙◌, zero, suc, ◌≡◌, ◌≤◌, ℕ, List, [], ◌∷◌, ◌++◌, map, take, drop, length}
use Rattle.std.proofs.lemmas.List.{drop-map, take-map, take-append-drop, drop_all, drop_at}
use Rattle.std.proofs.lemmas.List.{take-append-le, take_all, length-map, length-append}
use Rattle.interpolator_render.specs.Views.{Shown, shown_by}
use Rattle.interpolator_render.specs.declared.view.View.{View}
use Rattle.interpolator_eval.specs.Rows.{parts_to}
use Rattle.interpolator_eval.specs.Slots.{listed, listed_slots, slots_and, empty_slots, no_values}
use Rattle.interpolator_eval.specs.Slots.{with_integer, with_iter, Slots}
use Rattle.interpolator_table.specs.Cells.{CutTo, cells_of, cell_shows, rows_at}
use Rattle.interpolator_table.specs.declared.cell.Cell.{Cell}
use Rattle.interpolator_table.specs.Lists.{row_tree, shown_tree, shown_trees, Lends}

-- the parts of the images are the images of the parts
pub parts_map : {A B : Type 0} (f : A → B) (xs : List A) (from : ℕ) (ends : List ℕ)
    → parts_to (map f xs) from ends ≡ map (map f) (parts_to xs from ends)
parts_map f xs from [] = refl
parts_map f xs from (end ∷ ends) =
    grind (arith, parts_map f xs end ends, drop-map, take-map)

-- there is a part for each end
pub parts_count : {A : Type 0} (xs : List A) (from : ℕ) (ends : List ℕ)
    → length (parts_to xs from ends) ≡ length ends
parts_count xs from [] = refl
parts_count xs from (end ∷ ends) = grind (arith, parts_count xs end ends)

-- a list up to an end, without its front, and the list from this end on
pub cut_twice : {A : Type 0} (xs : List A) (from end : ℕ) → from ≤ end
    → drop from (take end xs) ++ drop end xs ≡ drop from xs
cut_twice xs zero end le = take-append-drop end xs
cut_twice xs (suc from) zero le = grind (arith, le)
cut_twice [] (suc from) (suc end) le = refl
cut_twice (x ∷ xs) (suc from) (suc end) le = cut_twice xs from end (omega arith)

-- the parts that reach the end of the list are the rest of it
pub parts_whole : {A : Type 0} (xs : List A) (from : ℕ) (ends : List ℕ)
    → CutTo ends from (length xs) → cells_of (parts_to xs from ends) ≡ drop from xs
parts_whole xs from [] is = sym (drop_all from xs (omega arith))
parts_whole xs from (end ∷ ends) is =
    rw (parts_whole xs end ends is.2) (cut_twice xs from end is.0)

-- a row is appended to the parts
pub parts_append : {A : Type 0} (xs ys : List A) (from : ℕ) (ends : List ℕ)
    → CutTo ends from (length xs)
    → parts_to (xs ++ ys) from (ends ++ length (xs ++ ys) ∷ []) ≡ parts_to xs from ends ++ ys ∷ []
parts_append xs ys from [] is = grind (arith, is, drop_at, take_all)
parts_append xs ys from (end ∷ ends) is =
    grind (arith, parts_append xs ys end ends is.2, is.1, take-append-le)

-- and so the ends go up to the new length
pub cut_append : (from last more : ℕ) (ends : List ℕ)
    → CutTo ends from last → last ≤ more → CutTo (ends ++ more ∷ []) from more
cut_append from last more [] is le = (rw is le, omega arith, refl)
cut_append from last more (end ∷ ends) is le =
    (is.0, omega arith, cut_append end last more ends is.2 le)

-- the items of a row show what its cells show
pub shown_items : (row : List View) → shown_trees (listed_slots (map (with_integer empty_slots) row))
    ≡ listed_slots (map (with_integer empty_slots) (map shown_by row))
unfolding shown_trees
shown_items [] = refl
shown_items (cell ∷ row) = ap (slots_and (with_integer empty_slots (shown_by cell))) (shown_items row)

-- a row shows what its cells show
pub shown_row : (row : List View) → shown_tree (with_iter empty_slots (map (with_integer empty_slots) row))
    ≡ row_tree (map shown_by row)
unfolding shown_tree
shown_row row = ap (listed no_values) (shown_items row)

-- and so do all rows
pub shown_rows : (rows : List (List View))
    → map shown_tree (map (with_iter empty_slots) (map (map (with_integer empty_slots)) rows))
    ≡ map row_tree (map (map shown_by) rows)
shown_rows [] = refl
shown_rows (row ∷ rows) = rw (shown_row row, shown_rows rows) refl

-- the rows of these views, up to these ends
pub shown_parts : (views : List View) (ends : List ℕ)
    → map shown_tree (map (with_iter empty_slots) (parts_to (map (with_integer empty_slots) views) 0 ends))
    ≡ map row_tree (parts_to (map shown_by views) 0 ends)
shown_parts views ends =
    rw (parts_map (with_integer empty_slots) views 0 ends, parts_map shown_by views 0 ends)
    (shown_rows (parts_to views 0 ends))

-- the cells of all rows are all cells
pub rows_whole : (cells : List Cell) (ends : List ℕ) → CutTo ends 0 (length cells)
    → cells_of (rows_at cells ends) ≡ map cell_shows cells
rows_whole cells ends is =
    parts_whole (map cell_shows cells) 0 ends (rw (length-map cells cell_shows) is)

-- the trees of rows of items that show what the cells of a table show
pub lends_rows : (cells : List Cell) (ends : List ℕ) (views : List View) (items trees : List (Slots View))
    → CutTo ends 0 (length cells) → map shown_by views ≡ cells_of (rows_at cells ends)
    → items ≡ map (with_integer empty_slots) views
    → trees ≡ map (with_iter empty_slots) (parts_to items 0 ends)
    → Lends (rows_at cells ends) trees
lends_rows cells ends views items trees is shows filled made =
    let all : map shown_by views ≡ map cell_shows cells = shows ∙ rows_whole cells ends is in
    rw (made, filled) (rw (← all) (shown_parts views ends))

-- a row is appended
pub row_appended : (old new : List Cell) (ends : List ℕ) (row : List Shown)
    → CutTo ends 0 (length old) → map cell_shows new ≡ map cell_shows old ++ row
    → rows_at new (ends ++ length new ∷ []) ≡ rows_at old ends ++ row ∷ []
row_appended old new ends row is made =
    let count : length new ≡ length (map cell_shows old ++ row) = sym (length-map new cell_shows) ∙ ap length made in
    rw (made, count) (parts_append (map cell_shows old) row 0 ends (rw (length-map old cell_shows) is))

-- the cells are no fewer
pub row_longer : (old new : List Cell) (row : List Shown)
    → map cell_shows new ≡ map cell_shows old ++ row → length old ≤ length new
row_longer old new row made = grind (arith, ap length made, length-map, length-append)
