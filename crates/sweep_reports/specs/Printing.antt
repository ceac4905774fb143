-- The lines of a report. Each is a JSON object. A result takes up one line, which begins with the head of its cut, or
-- of the stage before or after the command.
use Rattle.std.specs.Prelude.{◌-◌, ◌&&◌, ℕ, List, [], ◌∷◌, ◌++◌, codes, decimal, flat_map, length, take, drop}
use Rattle.std.specs.Prelude.{nat_eq, nat_lt, slice_get, slice_index, slice_range, Option, Some, None, if◌then◌else◌}
use Rattle.hex.specs.Hex.{encode_upper}
use Rattle.bench_turns.specs.declared.turn.Item.{Item}
use Rattle.bench_turns.specs.declared.turn.Item.TheVariants.{Atr, Quiet, Mute, Dark, Reply}
use Rattle.card_sweeps.specs.declared.tally.Seen.{Seen}

-- the information field of an I-block, whose control byte (1) is less than 128; nothing of another block
abbrev pub sent_field : List ℕ → List ℕ
sent_field block =
    if nat_lt 3 (length block) && nat_lt (slice_index block 1) 128 then slice_range block 3 (length block - 1) else []

-- the information field that the item of a turn has, as hexadecimal digits
abbrev pub field_text : Item → List ℕ
field_text Atr = []
field_text Quiet = []
field_text Mute = []
field_text Dark = []
field_text (Reply block) = encode_upper (sent_field block)

-- the word of an item without a block
abbrev pub word_text : Item → List ℕ
word_text Atr = codes "atr"
word_text Quiet = codes "off"
word_text Mute = codes "mute"
word_text Dark = codes "dark"
word_text (Reply block) = []

-- the last of some items
abbrev pub last_item : List Item → Option Item
last_item items = slice_get items (length items - 1)

-- the answer in the last item: a word, or the information field of its block
abbrev pub answer_text : Option Item → List ℕ
answer_text None = []
answer_text (Some item) = word_text item ++ field_text item

-- how the lines of a stage begin: with its name, and the answer of the last turn up to it
abbrev pub stage_head : List ℕ → List Item → List ℕ
stage_head stage items =
    (codes "{\"stage\": \"" ++ (stage ++ codes "\", \"answer\": \"")) ++ answer_text (last_item items) ++ codes "\", "

-- how the lines of a cut begin: with its device write, the number of its mask from 0, and the mask
abbrev pub cut_head : ℕ → ℕ → ℕ → List ℕ
cut_head write i mask = codes "{\"write\": " ++ (decimal write ++ (codes ", \"number\": " ++ (decimal i
    ++ (codes ", \"mask\": " ++ (decimal mask ++ codes ", ")))))

-- the answer of a line of the probe whose last item is a block: the bytes of its only block, or the information fields
-- of its I-blocks
abbrev pub reply_text : List Item → Item → List ℕ
reply_text items Atr = []
reply_text items Quiet = []
reply_text items Mute = []
reply_text items Dark = []
reply_text items (Reply block) =
    codes "< " ++ (if nat_eq (length items) 1 then encode_upper block else flat_map field_text items)

-- the answer of a line of the probe, by the last item of its turns: a word, or a reply
abbrev pub look_text : List Item → Option Item → List ℕ
look_text items None = []
look_text items (Some last) = word_text last ++ reply_text items last

-- the answers of the lines of the probe; each has this many turns
unfoldable pub looks_text : List ℕ → List Item → List ℕ
looks_text [] items = []
looks_text (size ∷ sizes) items = (codes ", \"" ++ (look_text (take size items) (last_item (take size items))
    ++ codes "\"")) ++ looks_text sizes (drop size items)

-- the number of runs of a result, and the free blocks and entries
abbrev pub runs_text : Seen → List ℕ
runs_text s = codes "\"runs\": " ++ (decimal s.count ++ (codes ", \"found\": [\"free " ++ (decimal s.free.blocks
    ++ (codes " " ++ (decimal s.free.entries ++ codes "\"")))))

-- a result after this head: the number of its runs, the free space, and the answer of each line of the probe
unfoldable pub result_text : List ℕ → List ℕ → Seen → List ℕ
result_text looks head s = (head ++ runs_text s) ++ looks_text looks s.trace.items ++ codes "]}\n"

-- the results, in order of appearance
abbrev pub results_text : List ℕ → List ℕ → List Seen → List ℕ
results_text looks head seen = flat_map (result_text looks head) seen

-- the last line: the number of device writes, and the depth
abbrev pub total_text : ℕ → ℕ → List ℕ
total_text writes depth =
    codes "{\"writes\": " ++ (decimal writes ++ (codes ", \"depth\": " ++ (decimal depth ++ codes "}\n")))
