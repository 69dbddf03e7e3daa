-- The commands on strings whose answer their words alone decide. In a dialect of numbers.
use Rattle.std.specs.Prelude.{List}
use Rattle.tcl_chars.specs.Texts.{literal}
use Rattle.tcl_chars.specs.declared.numbers.Dialect.{Dialect}
use Rattle.tcl_pages.specs.Answers.{Answer}
use Rattle.tcl_pages.specs.Formats.{format_page}
use Rattle.tcl_pages.specs.StringClasses.{string_is}
use Rattle.tcl_pages.specs.Strings.{string_compare, string_equal, string_first, string_index, join_page, string_last, string_length, string_map, string_match, string_range, string_repeat, string_replace, string_reverse, split_page, string_tolower, string_toupper, trim_by, trimmed_left, trimmed_right, trimmed_both}
use Rattle.tcl_pages.specs.Texts.{Text}
use Rattle.tcl_pages.specs.declared.pages.StringPage.{StringPage}
use Rattle.tcl_pages.specs.declared.pages.StringPage.TheVariants as page

-- what a command answers, or its error, by the words behind its name
unfoldable pub string_page : Dialect → StringPage → List Text → Answer Text
string_page dialect page.Compare ws = string_compare ws
string_page dialect page.Equal ws = string_equal ws
string_page dialect page.First ws = string_first dialect ws
string_page dialect page.Format ws = format_page dialect ws
string_page dialect page.Index ws = string_index dialect ws
string_page dialect page.Is ws = string_is dialect ws
string_page dialect page.Join ws = join_page ws
string_page dialect page.Last ws = string_last dialect ws
string_page dialect page.Length ws = string_length ws
string_page dialect page.Map ws = string_map ws
string_page dialect page.Match ws = string_match ws
string_page dialect page.Range ws = string_range dialect ws
string_page dialect page.Repeat ws = string_repeat dialect ws
string_page dialect page.Replace ws = string_replace dialect ws
string_page dialect page.Reverse ws = string_reverse ws
string_page dialect page.Split ws = split_page ws
string_page dialect page.Tolower ws = string_tolower ws
string_page dialect page.Toupper ws = string_toupper ws
string_page dialect page.Trim ws = trim_by trimmed_both (literal "string trim string ?chars?") ws
string_page dialect page.Trimleft ws = trim_by trimmed_left (literal "string trimleft string ?chars?") ws
string_page dialect page.Trimright ws = trim_by trimmed_right (literal "string trimright string ?chars?") ws
