-- How the structs lie in memory: in order, as C lays them out on 64 bits.
use Rattle.std.specs.Prelude.{ℕ, ◌+◌, ◌*◌}
use Rattle.interpolator_border.specs.declared.offsets.Sizes.{Sizes}

-- a number of 32 bits
abbrev pub half : ℕ
half = 4

-- a number of 64 bits, or a pointer
abbrev pub word : ℕ
word = 8

-- a pointer and a length
abbrev pub slice : ℕ
slice = 2 * word

-- a request: eight numbers of 32 bits, a width and a precision
abbrev pub request_size : ℕ
request_size = 8 * half + 2 * word

-- the sizes of the structs, and the offsets of some of their members
abbrev pub layout_of_c : Sizes
layout_of_c = record {
  request = request_size;
  lent = request_size + slice;
  field = 3 * slice + 2 * half + 6 * word + 2 * half;
  answer = 2 * half + 4 * word;
  argument = 6 * word + request_size;
  cost_answer = 2 * half + 3 * word;
  fault = 2 * half + word;
  source = 2 * slice + 2 * word;
  request_width = 8 * half;
  lent_text = request_size;
  field_kind = 3 * slice;
  field_number = 3 * slice + 2 * half;
  field_first = 3 * slice + 2 * half + 3 * word;
  field_real = 3 * slice + 2 * half + 5 * word;
  field_single = 3 * slice + 2 * half + 6 * word;
  answer_place = 2 * half;
  argument_request = 2 * word;
  argument_item = 2 * word + request_size;
}
