-- The markup of squares, by their size and their frame, and the colours.
use Rattle.std.specs.Prelude.{Bool, true, false, List, ℕ, codes, [], ◌∷◌, decimal}
use Rattle.std.specs.List.{concat}
use Rattle.dbpicture.specs.declared.frame.Frame.{Frame}
use Rattle.dbpicture.specs.declared.frame.Frame.TheVariants.{None, Strong, Weak}
use Rattle.dbpicture.specs.declared.grid.Width.{Width}
use Rattle.dbpicture.specs.declared.grid.Width.TheVariants.{Medium, Narrow, Wide}

-- those of trees by their ranks, and of all others
abbrev pub tree_colours : List ℕ
tree_colours = codes ".t0{fill:#067CFF}.t1{fill:#E6B006}.t2{fill:#A001C6}.t3{fill:#728551}.t4{fill:#F18740}.t5{fill:#004C7B}.t6{fill:#D5FF00}"

abbrev pub later_tree_colours : List ℕ
later_tree_colours = codes ".t7{fill:#4E251A}.t8{fill:#2D06FF}.t9{fill:#FFFF7E}.t10{fill:#050984}.t11{fill:#210136}.t12{fill:#5A5A5A}"

-- the same of their overflow pages
abbrev pub overflow_colours : List ℕ
overflow_colours = codes ".o0{fill:#C6E1FF}.o1{fill:#F2D67E}.o2{fill:#DB9EE9}.o3{fill:#BBC4AB}.o4{fill:#F7B78C}.o5{fill:#6E99B4}.o6{fill:#F2FFB3}"

abbrev pub later_overflow_colours : List ℕ
later_overflow_colours = codes ".o7{fill:#957C76}.o8{fill:#A594FF}.o9{fill:#FFFFE3}.o10{fill:#6C6EB6}.o11{fill:#7A6786}.o12{fill:#A6A6A6}"

-- those of the freelist, of pages of fixed use, of those that are nobody's, of those that are not in the file, and of those that are one byte throughout
abbrev pub other_colours : List ℕ
other_colours = codes ".t13{fill:#DBDBDB}.t14{fill:#000000}.t15{fill:url(#unowned)}.t16{fill:url(#zeros)}.t17{fill:#FFFFFF}"

-- what the class of an owner begins with, in the shade of overflow pages or not; its number follows
abbrev pub shade_letter : Bool → List ℕ
shade_letter true = codes "o"
shade_letter false = codes "t"

-- how far a square is moved in, in pixels
abbrev pub inset : Width → Frame → ℕ
inset Narrow Strong = 1
inset _ _ = 0

-- how a square goes on after its place in the row: its size, and its frame
abbrev pub extent : Width → Frame → List ℕ
extent Narrow Strong = codes "\" y=\"1\" width=\"25\" height=\"25\""
extent Narrow _ = codes "\" width=\"27\" height=\"27\""
extent Medium _ = codes "\" width=\"13\" height=\"13\""
extent Wide _ = codes "\" width=\"6\" height=\"6\""

abbrev pub stroke : Width → Frame → List ℕ
stroke _ None = codes ""
stroke _ Weak = codes " stroke=\"#BE0700\" stroke-width=\"2\" paint-order=\"stroke\""
stroke Narrow Strong = codes " stroke=\"#BE0700\" stroke-width=\"4\""
stroke _ Strong = codes " stroke=\"#BE0700\" stroke-width=\"2\""

-- the pages of a group, after the word
abbrev pub group_pages_text : ℕ → ℕ → List ℕ
group_pages_text first last = concat (codes "s " ∷ decimal first ∷ codes " to " ∷ decimal last ∷ [])

-- how an outline goes on
abbrev pub outline_tail : Width → List ℕ
outline_tail Narrow = codes "\" width=\"26\" height=\"26\"><title>page"
outline_tail Medium = codes "\" width=\"12\" height=\"12\"><title>page"
outline_tail Wide = codes "\" width=\"5\" height=\"5\"><title>page"
