-- Lists of predecessors of which one may be replaced.
use Rattle.std.specs.Prelude.{List, Option, Some, None, option_map}
use Rattle.external_dependencies.specs.declared.links.Link.{Link}
use Rattle.plan_store_lists.specs.LinkBlocks.{with_list}
use Rattle.plan_store_lists.specs.declared.app_lists.AppList.{AppList}
use Rattle.plan_store_lists.specs.declared.lists_then.ListsThen.{ListsThen}

-- the links with the list, if there is one, in the place of the one of its application
abbrev pub with_own : Option AppList → List Link → List Link
with_own None links = links
with_own (Some list) links = with_list list.app list.links.items links

-- the links of all lists, with the list that replaces another
abbrev pub links_then : ListsThen → List Link
links_then then = with_own (option_map (λ list. list.now) then.own) then.lists.now.items
