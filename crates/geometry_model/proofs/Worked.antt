-- Worked stores: a small one, a small one with two spaces, and a large one.
use Rattle.std.proofs.Common.{◌≡◌, true, false, refl, Some, None}
use Rattle.geometry_model.specs.Numbers.{Numbers, is_in_range, pages, objects, fan_out}
use Rattle.geometry_model.specs.Pages.{directory_page, place}

abbrev small : Numbers
small = record { page = 256; order = 4; spaces = 1; catalog = 1; threshold = 2 }

abbrev double : Numbers
double = record { page = 256; order = 4; spaces = 2; catalog = 1; threshold = 2 }

abbrev large : Numbers
large = record { page = 4096; order = 12; spaces = 4; catalog = 1; threshold = 8 }

small-in_range : is_in_range small ≡ true
unfolding is_in_range
small-in_range = refl

-- a space of 2 ^ 11 pages would need a bitmap of a whole page of 256 bytes
too_wide-refused : is_in_range (record small { order = 11 }) ≡ false
unfolding is_in_range
too_wide-refused = refl

-- a threshold of 9 is more than half of 16 pages
too_high-refused : is_in_range (record small { threshold = 9 }) ≡ false
unfolding is_in_range
too_high-refused = refl

small-pages : pages small ≡ 19
small-pages = refl

small-objects : objects small ≡ 16
small-objects = refl

small-fan_out : fan_out small ≡ 20
small-fan_out = refl

double-pages : pages double ≡ 36
double-pages = refl

double-objects : objects double ≡ 16
double-objects = refl

double-second_directory : directory_page double 1 ≡ 19
double-second_directory = refl

large-pages : pages large ≡ 16390
large-pages = refl

small-first : place small 3 ≡ Some (0, 0)
unfolding place
small-first = refl

small-last : place small 18 ≡ Some (0, 15)
unfolding place
small-last = refl

small-directory : place small 2 ≡ None
unfolding place
small-directory = refl

small-past : place small 19 ≡ None
unfolding place
small-past = refl

double-second : place double 20 ≡ Some (1, 0)
unfolding place
double-second = refl
