-- Worked examples of the definitions, each by computation.
use Rattle.std.specs.Prelude.{◌≡◌, refl, [], ◌∷◌}
use Rattle.text.specs.Output.{bytes, spell}
use Rattle.marked_line.specs.Marked.{visible, shown}
use Rattle.pair_lines.specs.Sort.{all_blank, begins, sort_of}
use Rattle.pair_lines.specs.Said.{remark_text, said_text}
use Rattle.pair_lines.specs.declared.Sort.TheVariants.{Blank, One, Two, Whole, Other}
use Rattle.pair_lines.specs.declared.Remark.TheVariants.{Name}

-- the CR of an otherwise empty line that CR LF ends
carriage_return : sort_of (13 ∷ []) ≡ Blank
unfolding sort_of all_blank
carriage_return = refl

short_line_1 : sort_of (bytes "1 00005U") ≡ One
unfolding sort_of all_blank begins
short_line_1 = refl

line_2 : sort_of (bytes "2 00005  34.2682") ≡ Two
unfolding sort_of all_blank begins
line_2 = refl

name : sort_of (bytes "VANGUARD 1") ≡ Other
unfolding sort_of all_blank begins
name = refl

-- 69 bytes with a damaged first column
damaged : sort_of (bytes "x 00005U 58002B   00179.78495062  .00000023  00000-0  28098-4 0  4753") ≡ Whole
unfolding sort_of all_blank begins
damaged = refl

name_said : said_text 7 Name (bytes "VANGUARD 1") ≡ bytes "line 7 is no line of a pair and is taken for a name:\n    VANGUARD 1\n"
unfolding said_text remark_text shown visible spell
name_said = refl
