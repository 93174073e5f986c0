-- The report of a state, a text. Numbers are hexadecimal digits of fixed width in lower case; the tick count, the
-- length of the console's output and the number of a TLB pair are decimal. The format is this project's own.
use Rattle.std.specs.Prelude.{ℕ, Bool, ◌==◌, ◌+◌, ◌*◌, ◌/◌, ◌%◌, ◌&&◌, List, [], ◌∷◌, ◌++◌, length, take, drop, codes, slice_index, if◌then◌else◌, Option, Some, None}
use Rattle.std.specs.List.{flat_map, range_with_len}
use Rattle.r4_words.specs.Ascii.{digit_0}
use Rattle.r4_words.specs.Texts.{hex_of, dec_of}
use Rattle.mips3_alu.specs.declared.registers.Regs.{Regs}
use Rattle.cp0_regs.specs.Registers.{numbers}
use Rattle.tlb_model.specs.declared.pairs.Pair.{Pair}
use Rattle.tlb_model.specs.Pairs.{pair_at}
use Rattle.mips3_alu.specs.Registers.{register}
use Rattle.run_report.specs.Shown.{Shown}

-- a label and so many hexadecimal digits of a number
abbrev pub labelled : List ℕ → ℕ → ℕ → List ℕ
labelled label digits number = label ++ hex_of digits number

-- a bit as a digit
abbrev pub bit_digit : Bool → List ℕ
bit_digit bit = if bit then codes "1" else codes "0"

-- a number below 100 as two decimal digits
abbrev pub two_digits : ℕ → List ℕ
two_digits number = (digit_0 + number / 10) ∷ (digit_0 + number % 10) ∷ []

-- how the run ended: at the bound on its ticks, or at a halt
abbrev pub end_text : Option ℕ → List ℕ
end_text None = codes " bound\n"
end_text (Some code) = labelled (codes " halt ") 8 code ++ codes "\n"

-- the tick count
unfoldable pub ticks_line : ℕ → Option ℕ → List ℕ
ticks_line ticks halt = codes "ticks " ++ dec_of ticks ++ end_text halt

-- where the processor stands
unfoldable pub pc_line : ℕ → ℕ → Bool → Bool → List ℕ
pc_line pc npc slot link =
    labelled (codes "pc ") 8 pc ++ labelled (codes " npc ") 8 npc
    ++ codes " slot " ++ bit_digit slot ++ codes " link " ++ bit_digit link ++ codes "\n"

-- HI and LO
unfoldable pub halves_line : Regs → List ℕ
halves_line regs = labelled (codes "hi ") 16 regs.hi ++ labelled (codes " lo ") 16 regs.lo ++ codes "\n"

-- four general registers, from one on
unfoldable pub register_line : Regs → ℕ → List ℕ
register_line regs at =
    codes "r" ++ two_digits at
    ++ labelled (codes " ") 16 (register regs at) ++ labelled (codes " ") 16 (register regs (at + 1))
    ++ labelled (codes " ") 16 (register regs (at + 2)) ++ labelled (codes " ") 16 (register regs (at + 3)) ++ codes "\n"

-- the first so many lines of four registers
unfoldable pub register_lines : Regs → ℕ → List ℕ
register_lines regs lines = flat_map (λ line. register_line regs (4 * line)) (range_with_len 0 lines)

-- four numbers of 32 bits, and the line's end
unfoldable pub four_numbers : ℕ → ℕ → ℕ → ℕ → List ℕ
four_numbers first second third fourth =
    labelled (codes " ") 8 first ++ labelled (codes " ") 8 second
    ++ labelled (codes " ") 8 third ++ labelled (codes " ") 8 fourth ++ codes "\n"

-- the same of a list of four numbers
abbrev pub four_of : List ℕ → List ℕ
four_of listed = four_numbers (slice_index listed 0) (slice_index listed 1) (slice_index listed 2) (slice_index listed 3)

-- the number of the register at a place in the order of the table of CP0, and what it holds
abbrev pub number_at : ℕ → ℕ
number_at place = slice_index numbers place

abbrev pub held_at : List ℕ → ℕ → ℕ
held_at cp0 place = slice_index cp0 (number_at place)

-- four registers of CP0, from a place on, under the number of the first
unfoldable pub system_line : List ℕ → ℕ → List ℕ
system_line cp0 at =
    codes "c" ++ dec_of (number_at at)
    ++ four_numbers (held_at cp0 at) (held_at cp0 (at + 1)) (held_at cp0 (at + 2)) (held_at cp0 (at + 3))

-- the first so many lines of four registers of CP0
unfoldable pub system_lines : List ℕ → ℕ → List ℕ
system_lines cp0 lines = flat_map (λ line. system_line cp0 (4 * line)) (range_with_len 0 lines)

-- a pair of the TLB whose four words are zero
abbrev pub is_zero_pair : Pair → Bool
is_zero_pair pair = (pair.mask == 0) && ((pair.hi == 0) && ((pair.lo0 == 0) && (pair.lo1 == 0)))

-- a pair of the TLB under its number; one that is all zero has no line
unfoldable pub pair_line : ℕ → Pair → List ℕ
pair_line at pair =
    if is_zero_pair pair then []
    else codes "tlb " ++ two_digits at
    ++ four_numbers pair.mask pair.hi pair.lo0 pair.lo1

-- the lines of the first so many pairs
unfoldable pub pair_lines : List Pair → ℕ → List ℕ
pair_lines pairs count = flat_map (λ at. pair_line at (pair_at pairs at)) (range_with_len 0 count)

-- the disk's registers: SECT, ADDR and DSTAT
unfoldable pub disk_line : ℕ → ℕ → ℕ → List ℕ
disk_line sector address status =
    labelled (codes "disk ") 8 sector ++ labelled (codes " ") 8 address ++ labelled (codes " ") 1 status ++ codes "\n"

-- how many bytes the console has printed
unfoldable pub out_line : ℕ → List ℕ
out_line count = codes "out " ++ dec_of count ++ codes "\n"

-- two hexadecimal digits for each byte
abbrev pub digits_of_bytes : List ℕ → List ℕ
digits_of_bytes bytes = flat_map (hex_of 2) bytes

-- some of the printed bytes
unfoldable pub bytes_line : List ℕ → List ℕ
bytes_line bytes = codes ": " ++ digits_of_bytes bytes ++ codes "\n"

-- the bytes of a line: 32 of those that are printed, and fewer in the last line
abbrev pub bytes_at : List ℕ → ℕ → List ℕ
bytes_at bytes line = take 32 (drop (32 * line) bytes)

-- the first so many lines of printed bytes
unfoldable pub bytes_lines : List ℕ → ℕ → List ℕ
bytes_lines bytes lines = flat_map (λ line. bytes_line (bytes_at bytes line)) (range_with_len 0 lines)

-- how many lines of 32 bytes hold so many bytes
abbrev pub line_count : ℕ → ℕ
line_count count = (count + 31) / 32

-- the processor's part of the report
unfoldable pub cpu_lines : Shown → List ℕ
cpu_lines shown =
    ticks_line shown.ticks shown.halt ++ pc_line shown.pc shown.npc shown.slot shown.link
    ++ halves_line shown.regs ++ register_lines shown.regs 8

-- the console's part
unfoldable pub console_lines : List ℕ → List ℕ
console_lines bytes = out_line (length bytes) ++ bytes_lines bytes (line_count (length bytes))

-- the report of what a state shows
unfoldable pub report_of : Shown → List ℕ
report_of shown =
    cpu_lines shown ++ system_lines shown.cp0 5 ++ pair_lines shown.tlb 48
    ++ disk_line shown.sector shown.address shown.status ++ console_lines shown.console
