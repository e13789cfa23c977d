-- The empty store: all data pages are free, and all objects absent.
use Rattle.std.specs.Prelude.{ℕ, ◌+◌, ◌-◌, ◌*◌, ◌/◌, true, List, ◌++◌, replicate, codes}
use Rattle.std.specs.Int.{w32, to_be_bytes}
use Rattle.geometry_model.specs.Numbers.{Numbers, objects, space_pages}
use Rattle.block_model.specs.Directory.{directory_page as directory_bytes}
use Rattle.eos_ops.specs.declared.plain.Plain.{Plain}
use Rattle.eos_ops.specs.declared.plain.Plain.TheVariants.{Absent}
use Rattle.moment_model.specs.Moment.{Moment, absent_slot}
use Rattle.image_model.specs.Super.{super_bytes}
use Rattle.store_format.specs.Writing.{front_count}

-- a directory of so many pages, all of them free: the mark, the number of the space, the count, a
-- zero, a bitmap of ones, and zeros
abbrev pub full_directory : ℕ → ℕ → ℕ → List ℕ
full_directory size space count =
    codes "DIR1" ++ (to_be_bytes w32 space ++ (to_be_bytes w32 count ++ (replicate 4 0
    ++ (replicate (count / 8) 255 ++ replicate (size - (16 + count / 8)) 0))))

-- its directories, its superblock with its catalog, its moment and its database
abbrev pub blank_directory : Numbers → ℕ → List ℕ
blank_directory n s = directory_bytes n.page s (replicate (space_pages n) true)

abbrev pub blank_front : Numbers → List ℕ
blank_front n = super_bytes 2 n ++ replicate (front_count n * n.page - 256) 0

abbrev pub blank_moment : Numbers → Moment
blank_moment n = replicate (objects n) absent_slot

abbrev pub blank_database : Numbers → List Plain
blank_database n = replicate (objects n) Absent
