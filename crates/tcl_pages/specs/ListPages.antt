-- The commands on lists whose answer their words alone decide. In a dialect of numbers.
use Rattle.std.specs.Prelude.{List, Ok}
use Rattle.tcl_chars.specs.declared.numbers.Dialect.{Dialect}
use Rattle.tcl_list.specs.Written.{written}
use Rattle.tcl_pages.specs.Answers.{Answer}
use Rattle.tcl_pages.specs.Lists.{concat, lindex, linsert, llength, lrange, lrepeat, lreplace, lreverse}
use Rattle.tcl_pages.specs.Searching.{lsearch}
use Rattle.tcl_pages.specs.Sorting.{lsort}
use Rattle.tcl_pages.specs.Texts.{Text}
use Rattle.tcl_pages.specs.declared.lists.ListPage.{ListPage}
use Rattle.tcl_pages.specs.declared.lists.ListPage.TheVariants as page

-- what a command answers, or its error, by the words behind its name
unfoldable pub list_page : Dialect → ListPage → List Text → Answer Text
list_page dialect page.Concat ts = Ok (concat ts)
list_page dialect page.Lindex ts = lindex dialect ts
list_page dialect page.Linsert ts = linsert dialect ts
list_page dialect page.List ts = Ok (written ts)
list_page dialect page.Llength ts = llength ts
list_page dialect page.Lrange ts = lrange dialect ts
list_page dialect page.Lrepeat ts = lrepeat dialect ts
list_page dialect page.Lreplace ts = lreplace dialect ts
list_page dialect page.Lreverse ts = lreverse ts
list_page dialect page.Lsearch ts = lsearch ts
list_page dialect page.Lsort ts = lsort dialect ts
